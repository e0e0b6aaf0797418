use Rattle.std.proofs.Common.{arith}
use Rattle.argot_names_blocks.proofs.Enclosing.{all_blocks}
use Rattle.argot_names_blocks.proofs.blocks.blocks_of.Goals as goal

pub returns : goal.returns
returns c = all_blocks c.args.nodes.now c.loop-k.k c.loop-k.blocks.items (omega (arith, c.loop-k-test.false)) c.loop-k.invariant
