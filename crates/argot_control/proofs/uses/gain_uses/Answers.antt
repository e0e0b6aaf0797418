use Rattle.std.proofs.Common.{◌≡◌, ℕ, ◌+◌, ◌<◌, inl, inr, arith, subst}
use Rattle.std.proofs.lemmas.Bool.{cases_lt}
use Rattle.argot_facts.proofs.Listed.{get_within}
use Rattle.argot_control.specs.Pairs.{UsesLead}
use Rattle.argot_control.proofs.Gaining.{gains_both, gains_as}
use Rattle.argot_control.proofs.uses.gain_uses.Goals as goal

pub loop-h-preserved : goal.loop-h-preserved
loop-h-preserved c =
    let p = c.args.program.now in
    let x = c.args.points.now in
    let k = c.loop-h.h in
    record {
      gains = gains_both (λ a b. (h : ℕ) × (h < k) × UsesLead p x h a b) (UsesLead p x k) (λ a b. (h : ℕ) × (h < k + 1) × UsesLead p x h a b)
          c.args.pairs.now.items c.loop-h.pairs.items c.gain_function.new.pairs.items
          (λ a b u. (u.0, let l = u.1 in omega arith, u.2))
          (λ a b u. (k, omega arith, u))
          (λ a b u. elim (cases_lt u.0 k) [
            | inl l ↦ inl (u.0, l, u.2)
            | inr l ↦ let e : u.0 ≡ k = let m = u.1 in omega arith in inr (subst (λ n. UsesLead p x n a b) e u.2)
          ])
          c.loop-h.invariant.gains c.in_ok-gain_function.ensures;
    }

pub returns-clause-gains : goal.returns-clause-gains
returns-clause-gains c =
    let p = c.args.program.now in
    let x = c.args.points.now in
    gains_as (λ a b. (h : ℕ) × (h < c.loop-h.h) × UsesLead p x h a b) (λ a b. (h : ℕ) × UsesLead p x h a b) c.args.pairs.now.items c.loop-h.pairs.items
    (λ a b u. (u.0, u.2))
    (λ a b u. let l = get_within p.functions u.0 u.1.1.fn u.1.1.is in let e = c.loop-h-test.false in let n = c.function_count-h-end.ensures.count in (u.0, omega arith, u.1))
    c.loop-h.invariant.gains
