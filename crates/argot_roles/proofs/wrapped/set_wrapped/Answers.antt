use Rattle.std.proofs.Common.{◌≡◌, ℕ, ◌<◌, ◌+◌, Some, sym, ap, ◌∙◌, subst, inl, inr, arith}
use Rattle.std.proofs.lemmas.Bool.{cases_lt}
use Rattle.std.specs.List.{slice_get}
use Rattle.std.specs.Prelude.{◌⊎◌}
use Rattle.argot_facts.proofs.Listed.{get_within}
use Rattle.argot_roles.specs.Counting.{Wraps, IsWrapped}
use Rattle.argot_roles.proofs.Setting.{marks_none, marks_both, marks_as}
use Rattle.argot_roles.proofs.wrapped.set_wrapped.Goals as goal

pub loop-h-init : goal.loop-h-init
loop-h-init c = marks_none _ _ (λ m w. absurd (omega (arith, w.1)))

pub loop-h-preserved : goal.loop-h-preserved
loop-h-preserved c =
    let p = c.args.program.now in
    let h = c.loop-h.h in
    let fn = c.function.result.now in
    let one : (m : ℕ) → (w : IsWrapped p m) × (w.0 < h + 1) → ((w : IsWrapped p m) × (w.0 < h)) ⊎ Wraps fn m = λ m w.
    elim (cases_lt w.0.0 h) [
      | inl l ↦ inl (w.0, l)
      | inr l ↦
          let e : w.0.0 ≡ h = omega (arith, w.1, l) in
          let z : Some w.0.1 ≡ Some fn = sym w.0.2 ∙ ap (slice_get p.functions) e ∙ c.function.ensures in
          let s : w.0.1 ≡ fn = cc in
          inr (subst (λ f. Wraps f m) s w.0.3)
    ] in
    marks_both (λ m. (w : IsWrapped p m) × (w.0 < h)) (Wraps fn) (λ m. (w : IsWrapped p m) × (w.0 < h + 1)) _ _ _
    (λ m s. elim s [ inl x ↦ (x.0, omega (arith, x.1)) | inr x ↦ ((h, fn, c.function.ensures, x), omega arith) ])
    one
    c.loop-h.invariant c.set_within.ensures

pub returns : goal.returns
returns c =
    let p = c.args.program.now in
    marks_as (λ m. (w : IsWrapped p m) × (w.0 < c.loop-h.h)) (IsWrapped p) _ _
    (λ m w. w.0)
    (λ m w. (w, omega (arith, get_within p.functions w.0 w.1 w.2)))
    c.loop-h.invariant
