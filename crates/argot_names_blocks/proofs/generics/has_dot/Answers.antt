use Rattle.std.proofs.Common.{sym, ◌∙◌}
use Rattle.argot_names_blocks.proofs.Generic.{tells_dot, tells_there}
use Rattle.argot_names_blocks.proofs.generics.has_dot.Goals as goal

pub returns-then-is_dot : goal.returns-then-is_dot
returns-then-is_dot c = tells_there c.args.nodes.now c.loop-k.k (sym c.is_dot.ensures ∙ c.if-is_dot.true)

pub returns : goal.returns
returns c = tells_dot c.args.nodes.now c.loop-k.k c.loop-k-test.false c.loop-k.invariant
