use Rattle.std.proofs.Common.{◌≡◌, ℕ, ◌+◌, ◌<◌, Some, sym, ap, ◌∙◌, inl, inr, arith, subst}
use Rattle.std.proofs.lemmas.Bool.{cases_lt}
use Rattle.argot_plain.specs.Code.{IsFunction}
use Rattle.argot_plain.specs.declared.functions.Function.{Function}
use Rattle.argot_facts.proofs.Listed.{get_within}
use Rattle.argot_control.specs.Numbering.{IsExit}
use Rattle.argot_control.proofs.Cutting.{marks_both, marks_as}
use Rattle.argot_control.proofs.entered.enter_exits.Goals as goal

pub loop-h-preserved : goal.loop-h-preserved
loop-h-preserved c =
    let p = c.args.program.now in
    let n = c.loop-h.h in
    let fn = c.function.result.now in
    record {
      marks = marks_both (λ m. (h : ℕ) × (h < n) × (f : Function) × IsFunction p h f × (m ≡ f.exit)) (λ m. m ≡ fn.exit) (λ m. (h : ℕ) × (h < n + 1) × (f : Function) × IsFunction p h f × (m ≡ f.exit))
          c.args.flags.now.items c.loop-h.flags.items c.enter.new.flags.items
          (λ m u. elim (cases_lt u.0 n) [
            | inl l ↦ inl (u.0, l, u.2, u.3, u.4)
            | inr l ↦
                let e : u.0 ≡ n = omega (arith, u.1) in
                let s : Some u.2 ≡ Some fn = sym (subst (λ k. IsFunction p k u.2) e u.3) ∙ c.function.ensures in
                let f : u.2 ≡ fn = cc in
                inr (u.4 ∙ ap (λ (z : Function). z.exit) f)
          ])
          c.loop-h.invariant.marks c.enter.ensures;
    }

pub returns : goal.returns
returns c =
    let p = c.args.program.now in
    marks_as (λ m. (h : ℕ) × (h < c.loop-h.h) × (f : Function) × IsFunction p h f × (m ≡ f.exit)) (IsExit p) c.args.flags.now.items c.loop-h.flags.items
    (λ m u. let l = get_within p.functions u.0 u.1 u.2 in let e = c.loop-h-test.false in let n = c.function_count-h-end.ensures.count in (u.0, omega arith, u.1, u.2, u.3))
    c.loop-h.invariant.marks
