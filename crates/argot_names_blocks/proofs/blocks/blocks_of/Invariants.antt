use Rattle.argot_names_blocks.specs.Blocks.{AreBlocksUpTo}
use Rattle.argot_names_blocks.proofs.blocks.blocks_of.Given as goal

abbrev pub invariant-loop-k : goal.invariant-loop-k
invariant-loop-k l = AreBlocksUpTo l.nodes l.k l.blocks.items
