use Rattle.std.proofs.Common.{arith}
use Rattle.std.proofs.lemmas.Grind.{common_steps}
use Rattle.argot_plain_parts.proofs.Ascending.{past_end, at_end}
use Rattle.argot_plain_parts.proofs.paths.path_before.Goals as goal

pub returns-then-i-b : goal.returns-then-i-b
returns-then-i-b c = grind (arith, common_steps, past_end)

pub returns : goal.returns
returns c = at_end c.args.a.now c.args.b.now c.loop-i.i (omega arith) c.loop-i.invariant
