-- What a list has, after one more number at its end or one less at its start.
use Rattle.std.proofs.Common.{◌≡◌, ℕ, ◌<◌, ◌⊎◌, Bool, true, false, ◌||◌, nat_eq, List, [], ◌∷◌, ◌++◌, refl, sym, ap, ◌∙◌, inl, inr, eq-eqb, eqb-true}
use Rattle.std.proofs.lemmas.Bool.{or_parts, or_from, or_left, or_right, or_cases, ne_eqb, both_ways}
use Rattle.argot_links.specs.Members.{has, AreDistinct, AreBelow}

pub has-push : (xs : List ℕ) (y i : ℕ) → has (xs ++ y ∷ []) i ≡ (has xs i || nat_eq y i)
has-push [] y i = elim (nat_eq y i) as (λ b. (b || false) ≡ b) [ true ↦ refl | false ↦ refl ]
has-push (x ∷ xs) y i =
    elim (nat_eq x i) as (λ b. (b || has (xs ++ y ∷ []) i) ≡ ((b || has xs i) || nat_eq y i)) [ true ↦ refl | false ↦ has-push xs y i ]

pub has_pushed : (xs : List ℕ) (y : ℕ) → has (xs ++ y ∷ []) y ≡ true
has_pushed xs y = has-push xs y y ∙ or_right _ _ (eq-eqb y y refl)

pub has_kept : (xs : List ℕ) (y i : ℕ) → has xs i ≡ true → has (xs ++ y ∷ []) i ≡ true
has_kept xs y i h = has-push xs y i ∙ or_left _ _ h

or_false : (b c : Bool) → c ≡ false → (b || c) ≡ b
or_false true c e = refl
or_false false c e = e

pub has_other : (xs : List ℕ) (y i : ℕ) → (i ≡ y → ⊥) → has (xs ++ y ∷ []) i ≡ has xs i
has_other xs y i ne = has-push xs y i ∙ or_false (has xs i) _ (ne_eqb y i (λ e. ne (sym e)))

pub has_first : (x : ℕ) (xs : List ℕ) → has (x ∷ xs) x ≡ true
has_first x xs = or_left _ _ (eq-eqb x x refl)

pub has_rest : (x : ℕ) (xs : List ℕ) (i : ℕ) → (i ≡ x → ⊥) → has (x ∷ xs) i ≡ has xs i
has_rest x xs i ne = ap (λ b. b || has xs i) (ne_eqb x i (λ e. ne (sym e)))

pub has_cases : (x : ℕ) (xs : List ℕ) (i : ℕ) → has (x ∷ xs) i ≡ true → (i ≡ x) ⊎ (has xs i ≡ true)
has_cases x xs i h = elim (or_cases (nat_eq x i) (has xs i) h) [ inl e ↦ inl (sym (eqb-true x i e)) | inr r ↦ inr r ]

pub distinct-push : (xs : List ℕ) (y : ℕ) → AreDistinct xs → has xs y ≡ false → AreDistinct (xs ++ y ∷ [])
distinct-push [] y d n = (refl, tt)
distinct-push (x ∷ xs) y d n =
    let p = or_parts (nat_eq x y) (has xs y) n in
    (has-push xs y x ∙ or_from _ _ d.0 (ne_eqb y x (λ e. both_ways _ p.0 (eq-eqb x y (sym e)))), distinct-push xs y d.1 p.1)

pub below-push : (n : ℕ) (xs : List ℕ) (y : ℕ) → AreBelow n xs → y < n → AreBelow n (xs ++ y ∷ [])
below-push n [] y b l = (l, tt)
below-push n (x ∷ xs) y b l = (b.0, below-push n xs y b.1 l)

-- what a list has after one more number at its end
pub pushed_cases : (xs : List ℕ) (y i : ℕ) → has (xs ++ y ∷ []) i ≡ true → (has xs i ≡ true) ⊎ (i ≡ y)
pushed_cases xs y i h = elim (or_cases (has xs i) (nat_eq y i) (sym (has-push xs y i) ∙ h)) [ inl o ↦ inl o | inr e ↦ inr (sym (eqb-true y i e)) ]
