-- The test of membership in a list of numbers.
use Rattle.std.proofs.Common.{◌≡◌, ℕ, Bool, true, false, List, [], ◌∷◌, refl, ap, eq-eqb}
use Rattle.std.specs.Prelude.{◌==◌, ◌||◌}
use Rattle.std.proofs.lemmas.Bool.{eqb-true}
use Rattle.argot_plain.specs.Lists.{In, here, there, member}

pub in_member : (n : ℕ) (ns : List ℕ) → In n ns → member n ns ≡ true
in_member n [] h = elim h [ ]
in_member n (m ∷ ns) (here e) = ap (λ b. b || member n ns) (eq-eqb n m e)
in_member n (m ∷ ns) (there h) = or_true (n == m) (member n ns) (in_member n ns h)
  where
    or_true : (a b : Bool) → b ≡ true → (a || b) ≡ true
    or_true true b e = refl
    or_true false b e = e

pub member_in : (n : ℕ) (ns : List ℕ) → member n ns ≡ true → In n ns
member_in n [] e = absurd cc
member_in n (m ∷ ns) e = by (n == m) refl e (member_in n ns)
  where
    by : (b : Bool) → (n == m) ≡ b → (b || member n ns) ≡ true → (member n ns ≡ true → In n ns) → In n (m ∷ ns)
    by true is h more = here (eqb-true n m is)
    by false is h more = there (more h)
