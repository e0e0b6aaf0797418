-- The lists of the registers that a place reads and defines.
use Rattle.std.proofs.Common.{◌≡◌, ℕ, ◌+◌, ◌<◌, ◌++◌, ◌==◌, Bool, true, false, cond, List, [], length, slice_index, refl, sym, ap, subst, ◌∙◌, inl, inr, arith}
use Rattle.std.proofs.lemmas.Bool.{both_ways}
use Rattle.argot_links.specs.Members.{has}
use Rattle.argot_plain.specs.Code.{Code, IsAt, IsFunction, reads, defined}
use Rattle.argot_plain.specs.WellFormed.{WellFormed}
use Rattle.argot_plain.specs.declared.functions.Function.{Function}
use Rattle.argot_plain.specs.declared.instructions.Kind.{Kind}
use Rattle.argot_ssa.specs.Places.{size, numbers, reads_in, defined_in, reads_at, defined_at, defines_at}
use Rattle.argot_ssa.proofs.Nexts.{has_in, in_has}
use Rattle.argot_ssa.proofs.Ranges.{inside_at}
use Rattle.argot_ssa.proofs.Reached.{append_cases, append_left, append_right, numbers_below, true_reads}
use Rattle.argot_ssa.proofs.Stepping.{index_has, has_index}

pub each_one : (list : List ℕ) (test : ℕ → Bool) → ((r : ℕ) → has list r ≡ test r) → (j : ℕ) → j < length list → test (slice_index list j) ≡ true
each_one list test same j low = sym (same (slice_index list j)) ∙ index_has list j low

pub all_of : (list : List ℕ) (test : ℕ → Bool) → ((r : ℕ) → has list r ≡ test r) → (r : ℕ) → test r ≡ true → (j : ℕ) × (j < length list) × (slice_index list j ≡ r)
all_of list test same r h = has_index list r (same r ∙ h)

pub reads_same : (p : Code) (fn : Function) (k : ℕ) (kind : Kind) → IsAt p (fn.entry + k) kind → (list : List ℕ) → list ≡ reads kind → (r : ℕ) → has list r ≡ reads_at p fn r k
unfolding reads_at
reads_same p fn k kind at list e r = ap (λ xs. has xs r) e ∙ ap (λ o. has (reads_in o) r) (sym at)

pub defined_same : (p : Code) (fn : Function) (k : ℕ) (kind : Kind) → IsAt p (fn.entry + k) kind → (list : List ℕ) → list ≡ cond (k == 0) (numbers fn.params) [] ++ defined kind → (r : ℕ) → has list r ≡ defines_at p fn r k
unfolding defines_at defined_at
defined_same p fn k kind at list e r = ap (λ xs. has xs r) e ∙ ap (λ o. has (cond (k == 0) (numbers fn.params) [] ++ defined_in o) r) (sym at)

params_below : (fn : Function) (b : Bool) (r : ℕ) → has (cond b (numbers fn.params) []) r ≡ true → r < fn.params
params_below fn true r h = numbers_below fn.params r h
params_below fn false r h = absurd (both_ways false refl h)

module _ (p : Code) (w : WellFormed p) (g : ℕ) (fn : Function) (is : IsFunction p g fn) (k : ℕ) (low : k < size fn) (kind : Kind) (at : IsAt p (fn.entry + k) kind) where
  in_range : (r : ℕ) → has (defined kind ++ reads kind) r ≡ true → r < length fn.registers
  in_range r h = w.registers.there (fn.entry + k) g r kind fn is (inside_at p w g fn is k low) at (has_in _ r h)

  pub reads_range : (list : List ℕ) → list ≡ reads kind → (j : ℕ) → j < length list → slice_index list j < length fn.registers
  reads_range list e j less = in_range (slice_index list j) (append_right (defined kind) (reads kind) _ (subst (λ xs. has xs (slice_index list j) ≡ true) e (index_has list j less)))

  pub defined_range : (list : List ℕ) → list ≡ cond (k == 0) (numbers fn.params) [] ++ defined kind → (j : ℕ) → j < length list → slice_index list j < length fn.registers
  defined_range list e j less =
      elim (append_cases (cond (k == 0) (numbers fn.params) []) (defined kind) _ (subst (λ xs. has xs (slice_index list j) ≡ true) e (index_has list j less))) [
        | inl param ↦ let few = params_below fn (k == 0) (slice_index list j) param in let fit = w.registers.params g fn is in omega arith
        | inr here ↦ in_range (slice_index list j) (append_left (defined kind) (reads kind) _ here)
      ]

-- a register that a place reads is one of the function
pub reads_below : (p : Code) (w : WellFormed p) (g : ℕ) (fn : Function) (is : IsFunction p g fn) (k : ℕ) → k < size fn → (r : ℕ) → reads_at p fn r k ≡ true → r < length fn.registers
reads_below p w g fn is k low r h =
    let found = true_reads p fn r k h in
    w.registers.there (fn.entry + k) g r found.0 fn is (inside_at p w g fn is k low) found.1
    (has_in _ r (append_right (defined found.0) (reads found.0) r (in_has r found.2)))
