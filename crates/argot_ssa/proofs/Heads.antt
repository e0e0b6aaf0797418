-- Where blocks begin, and the first place of each place's block.
use Rattle.std.proofs.Common.{◌≡◌, ℕ, zero, suc, ◌+◌, ◌<◌, ◌⊎◌, Bool, true, false, List, slice_index, sym, subst, ◌∙◌, inl, inr, arith}
use Rattle.std.proofs.lemmas.Bool.{cases_Bool, both_ways}
use Rattle.argot_plain.specs.Code.{Code}
use Rattle.argot_plain.specs.declared.functions.Function.{Function}
use Rattle.argot_ssa.specs.Places.{size, Goes, Cuts, AreHeads, IsInner, IsCut}

-- what cut a function still does with more places where blocks begin
pub cuts_kept : (p : Code) (fn : Function) (old new : ℕ → Bool) (k : ℕ) → ((a : ℕ) → old a ≡ true → new a ≡ true) → Cuts p fn old k → Cuts p fn new k
cuts_kept p fn old new k kept c = elim c [
  | inl plain ↦ inl plain
  | inr jump ↦ inr (record { there = λ s e. kept s (jump.there s e); behind = λ low. kept (k + 1) (jump.behind low) })
]

module _ (p : Code) (fn : Function) (begins : ℕ → Bool) (heads : List ℕ) (entry : begins 0 ≡ true) (cuts : (k : ℕ) → k < size fn → Cuts p fn begins k) (are : AreHeads begins (size fn) heads) where
  only_from : (k j : ℕ) → begins (k + 1) ≡ false → Goes p fn j (k + 1) → j ≡ k
  only_from k j free e = elim (cuts j e.from) [
    | inl plain ↦ let next = plain.only (k + 1) e in omega arith
    | inr jump ↦ absurd (both_ways _ free (jump.there (k + 1) e))
  ]

  inner : (k : ℕ) → suc k < size fn → begins (suc k) ≡ false → IsInner p fn heads (suc k)
  inner k low free =
      let shift : suc k ≡ k + 1 = omega arith in
      let free' : begins (k + 1) ≡ false = subst (λ n. begins n ≡ false) shift free in
      let within : k + 1 < size fn = omega arith in
      elim (cuts k (omega arith)) [
        | inl plain ↦ record {
          before = k;
          is = shift;
          same = subst (λ n. slice_index heads k ≡ slice_index heads n) (sym shift) (sym (are.same k within free'));
          step = subst (Goes p fn k) (sym shift) (plain.step within);
          only_from = λ j e. only_from k j free' (subst (Goes p fn j) shift e);
          only_to = λ s e. plain.only s e ∙ sym shift;
        }
        | inr jump ↦ absurd (both_ways _ free' (jump.behind within))
      ]

  each : (k : ℕ) → k < size fn → (slice_index heads k ≡ k) ⊎ IsInner p fn heads k
  each zero low = inl (are.begun 0 low entry)
  each (suc k) low = elim (cases_Bool (begins (suc k))) [
    | inl marked ↦ inl (are.begun (suc k) low marked)
    | inr free ↦ inr (inner k low free)
  ]

  pub cut_by : IsCut p fn heads
  cut_by = record { count = are.count; low = are.low; each = each }
