use Rattle.std.proofs.Common.{length, ◌∙◌, ap, arith, subst}
use Rattle.argot_facts.specs.Handed.{FactsOf}
use Rattle.argot_facts.specs.Marked.{IsSet}
use Rattle.argot_control.proofs.Cutting.{blocks, numbers_low}
use Rattle.argot_control.proofs.numbers.blocks_of.Goals as goal

pub numbered-requires : goal.numbered-requires
numbered-requires c =
    let count = c.in_ok-inner.ensures.count in
    let flags = ap length c.deref-2.ensures.value in
    let l = c.in_ok-inner.ensures.well.limits.instrs in
    omega (arith, count, flags, l)

pub returns-clause-low : goal.returns-clause-low
returns-clause-low c = λ b m.
    let l = numbers_low c.deref-2.result.now c.in_ok-numbers.numbers.items c.in_ok-numbers.ensures b m in
    let e = ap length c.deref-2.ensures.value ∙ c.in_ok-inner.ensures.count in
    omega (arith, l, e)

pub returns-clause-blocks : goal.returns-clause-blocks
returns-clause-blocks c =
    let p = c.args.program.now in
    let x = c.args.points.now in
    blocks c.deref-2.result.now c.in_ok-numbers.numbers.items c.in_ok-numbers.ensures p (FactsOf p x) c.in_ok-inner.ensures.well
    (λ m s. c.in_ok-inner.ensures.straight m (subst (λ xs. IsSet xs m) c.deref-2.ensures.value s))
