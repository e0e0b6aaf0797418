-- The place of a number in a list.
use Rattle.std.proofs.Common.{◌≡◌, ℕ, zero, suc, List, [], ◌∷◌, Bool, true, false, Some, get_or, refl, sym, ap, ◌∙◌, subst}
use Rattle.std.specs.Prelude.{slice_get, nat_eq, ◌||◌, Result, Ok, Err, IfSome, IfNone}
use Rattle.std.specs.Result.{OkIff, result_ok}
use Rattle.std.specs.List.{list_any, position}
use Rattle.std.proofs.lemmas.Bool.{eqb-true, eq-eqb}
use Rattle.std.proofs.lemmas.List.Quantifiers.{position-Some}
use Rattle.std.proofs.lemmas.Option.{slice_get-get_or}
use Rattle.argot_names_rules.specs.Lists.{In}

some_is : {A : Type 0} (x y : A) → Some x ≡ Some y → x ≡ y
some_is x y e = cc

-- the number stands where it was found
pub position_there : (q : ℕ) (xs : List ℕ) (i : ℕ) → position (nat_eq q) xs ≡ Some i → slice_get xs i ≡ Some q
position_there q xs i e =
    let p = position-Some (nat_eq q) xs i 0 e in
    slice_get-get_or xs i 0 p.0 ∙ ap (λ x. Some x) (sym (eqb-true q (get_or xs i 0) p.1))

or_right : (b c : Bool) → c ≡ true → (b || c) ≡ true
or_right true c e = refl
or_right false c e = e

or_left : (b c : Bool) → b ≡ true → (b || c) ≡ true
or_left true c e = refl
or_left false c e = absurd (cc)

in_any : (q : ℕ) (xs : List ℕ) (k : ℕ) → slice_get xs k ≡ Some q → list_any (nat_eq q) xs ≡ true
in_any q [] k e = absurd (cc)
in_any q (x ∷ xs) zero e = or_left (nat_eq q x) (list_any (nat_eq q) xs) (eq-eqb q x (sym (some_is x q e)))
in_any q (x ∷ xs) (suc k) e = or_right (nat_eq q x) (list_any (nat_eq q) xs) (in_any q xs k e)

-- a number that isn't found stands nowhere
pub not_any : (q : ℕ) (xs : List ℕ) → list_any (nat_eq q) xs ≡ false → In q xs → ⊥
not_any q xs e i = absurd (cc (in_any q xs i.0 i.1, e))

-- a number that is made smaller is the same, or doesn't fit
pub fit_some : {E : Type 0} (r : Result ℕ E) (P : Type 0) (v : ℕ) (Q : ℕ → Type 0) → OkIff r P v → Q v → IfSome (result_ok r) Q
fit_some (Ok x) P v Q o q = subst Q (sym o.1) q
fit_some (Err e) P v Q o q = tt

pub fit_none : {E : Type 0} (r : Result ℕ E) (P : Type 0) (v : ℕ) (Q : Type 0) → OkIff r P v → P → IfNone (result_ok r) Q
fit_none (Ok x) P v Q o p = tt
fit_none (Err e) P v Q o p = absurd (o p)
