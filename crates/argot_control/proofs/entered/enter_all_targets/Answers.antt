use Rattle.std.proofs.Common.{◌≡◌, ℕ, ◌+◌, ◌<◌, inl, inr, arith, subst}
use Rattle.std.proofs.lemmas.Bool.{cases_lt}
use Rattle.argot_plain.specs.Code.{IsAt}
use Rattle.argot_plain.specs.declared.instructions.Kind.{Kind}
use Rattle.argot_facts.proofs.Calls.{same_kind}
use Rattle.argot_control.specs.Numbering.{LeadsTo, IsTarget}
use Rattle.argot_control.proofs.Cutting.{marks_both, marks_as, at_within}
use Rattle.argot_control.proofs.entered.enter_all_targets.Goals as goal

pub loop-k-preserved : goal.loop-k-preserved
loop-k-preserved c =
    let p = c.args.program.now in
    let n = c.loop-k.k in
    let kind = c.kind.result.now in
    record {
      marks = marks_both (λ m. (k : ℕ) × (k < n) × (x : Kind) × IsAt p k x × LeadsTo x m) (LeadsTo kind) (λ m. (k : ℕ) × (k < n + 1) × (x : Kind) × IsAt p k x × LeadsTo x m)
          c.args.flags.now.items c.loop-k.flags.items c.enter_targets.new.flags.items
          (λ m u. elim (cases_lt u.0 n) [
            | inl l ↦ inl (u.0, l, u.2, u.3, u.4)
            | inr l ↦
                let e : u.0 ≡ n = omega (arith, u.1) in
                let s = same_kind p n u.2 kind (subst (λ k. IsAt p k u.2) e u.3) c.kind.ensures in
                inr (subst (λ x. LeadsTo x m) s u.4)
          ])
          c.loop-k.invariant.marks c.enter_targets.ensures;
    }

pub returns : goal.returns
returns c =
    let p = c.args.program.now in
    marks_as (λ m. (k : ℕ) × (k < c.loop-k.k) × (x : Kind) × IsAt p k x × LeadsTo x m) (IsTarget p) c.args.flags.now.items c.loop-k.flags.items
    (λ m u. let l = at_within p u.0 u.1 u.2 in let e = c.loop-k-test.false in let n = c.len-k-end.ensures.count in (u.0, omega arith, u.1, u.2, u.3))
    c.loop-k.invariant.marks
