use Rattle.argot_names_blocks.proofs.Outwards.{height, Bounds}
use Rattle.argot_names_blocks.proofs.blocks.outwards.Given as goal

abbrev pub invariant-loop-at : goal.invariant-loop-at
invariant-loop-at l = Bounds l.blocks l.count l.token l.at

abbrev pub decreases-loop-at : goal.decreases-loop-at
decreases-loop-at l = height l.at
