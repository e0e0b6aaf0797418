-- A test of a list of numbers.
use Rattle.std.proofs.Common.{◌≡◌, ℕ, zero, suc, ◌⊎◌, inl, inr, List, [], ◌∷◌, Bool, true, false, Some, refl, sym, ap}
use Rattle.std.specs.Prelude.{slice_get, nat_eq, ◌||◌}
use Rattle.std.specs.List.{list_any}
use Rattle.std.proofs.lemmas.Bool.{eqb-true, eq-eqb}
use Rattle.argot_names_rules.specs.Lists.{In}

one_of : (b c : Bool) → (b || c) ≡ true → (b ≡ true) ⊎ (c ≡ true)
one_of true c e = inl refl
one_of false c e = inr e

some_is : {A : Type 0} (x y : A) → Some x ≡ Some y → x ≡ y
some_is x y e = cc

pub any_in : (q : ℕ) (xs : List ℕ) → list_any (nat_eq q) xs ≡ true → In q xs
any_in q [] e = absurd (cc)
any_in q (x ∷ xs) e =
    elim (one_of (nat_eq q x) (list_any (nat_eq q) xs) e) [
      | inl is ↦ (0, ap (λ y. Some y) (sym (eqb-true q x is)))
      | inr later ↦ let i = any_in q xs later in (suc i.0, i.1)
    ]

or_right : (b c : Bool) → c ≡ true → (b || c) ≡ true
or_right true c e = refl
or_right false c e = e

or_left : (b c : Bool) → b ≡ true → (b || c) ≡ true
or_left true c e = refl
or_left false c e = absurd (cc)

in_any : (q : ℕ) (xs : List ℕ) (k : ℕ) → slice_get xs k ≡ Some q → list_any (nat_eq q) xs ≡ true
in_any q [] k e = absurd (cc)
in_any q (x ∷ xs) zero e = or_left (nat_eq q x) (list_any (nat_eq q) xs) (eq-eqb q x (sym (some_is x q e)))
in_any q (x ∷ xs) (suc k) e = or_right (nat_eq q x) (list_any (nat_eq q) xs) (in_any q xs k e)

pub not_any : (q : ℕ) (xs : List ℕ) → list_any (nat_eq q) xs ≡ false → In q xs → ⊥
not_any q xs e i = absurd (cc (in_any q xs i.0 i.1, e))
