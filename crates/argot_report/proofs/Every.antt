-- What holds of each item of a list, found one item at a time.
use Rattle.std.proofs.Common.{◌≡◌, ℕ, ◌+◌, ◌<◌, ◌≤◌, Some, List, length, get_or, sym, ◌∙◌, inl, inr, arith, subst}
use Rattle.std.specs.Prelude.{slice_get}
use Rattle.std.proofs.lemmas.Bool.{cases_lt}
use Rattle.std.proofs.lemmas.Option.{slice_get-get_or}
use Rattle.argot_facts.proofs.Listed.{get_within}

module _ {X : Type 0} (P : X → Type 0) (xs : List X) (k : ℕ) where
  pub its : (d : X) → ((j : ℕ) (y : X) → slice_get xs j ≡ Some y → P y) → k < length xs → P (get_or xs k d)
  its d all l = all k (get_or xs k d) (slice_get-get_or xs k d l)

  pub one_more : (d : X) → ((j : ℕ) → j < k → (y : X) → slice_get xs j ≡ Some y → P y) → k < length xs → P (get_or xs k d)
      → (j : ℕ) → j < k + 1 → (y : X) → slice_get xs j ≡ Some y → P y
  one_more d before l here j within y is = elim (cases_lt j k) [
    | inl b ↦ before j b y is
    | inr b ↦
        let e : j ≡ k = omega (arith, within) in
        let at : slice_get xs k ≡ Some y = subst (λ z. slice_get xs z ≡ Some y) e is in
        let f : Some (get_or xs k d) ≡ Some y = sym (slice_get-get_or xs k d l) ∙ at in
        let g : get_or xs k d ≡ y = cc in
        subst P g here
  ]

  pub all_of : ((j : ℕ) → j < k → (y : X) → slice_get xs j ≡ Some y → P y) → length xs ≤ k → (j : ℕ) (y : X) → slice_get xs j ≡ Some y → P y
  all_of before past j y is = let w = get_within xs j y is in before j (omega arith) y is
