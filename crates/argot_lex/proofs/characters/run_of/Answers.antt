use Rattle.std.proofs.Common.{arith}
use Rattle.argot_lex.proofs.Chars.{Steps, stepped}
use Rattle.argot_lex.proofs.characters.run_of.Goals as goal
use Rattle.argot_lex.proofs.characters.run_of.Goals.{Then-step-eq0, Else-step-eq0}

steps : (c : Else-step-eq0) → Steps c.args.class c.args.bytes.now c.loop-at.at c.step_of-step.result
steps c = stepped _ _ _ _ _ c.rest.ensures c.step_of-step.ensures c.loop-at.invariant.within

pub returns-then-step-eq0-clause-value : goal.returns-then-step-eq0-clause-value
returns-then-step-eq0-clause-value c =
    let s = stepped _ _ _ _ _ c.rest.ensures c.step_of-step.ensures c.loop-at.invariant.within in
    omega (arith, s.stop c.if-step-eq0.true)

pub overflow_add-at : goal.overflow_add-at
overflow_add-at c = let s = steps c in omega (arith, s.within)

pub loop-at-preserved : goal.loop-at-preserved
loop-at-preserved c =
    let s = steps c in record { within = s.within; run = omega (arith, s.step c.if-step-eq0.false) }
