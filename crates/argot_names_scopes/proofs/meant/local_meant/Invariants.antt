use Rattle.argot_names_blocks.proofs.Outwards.{height}
use Rattle.argot_names_scopes.proofs.Walking.{Reaches}
use Rattle.argot_names_scopes.proofs.meant.local_meant.Given as goal

abbrev pub invariant-loop-at : goal.invariant-loop-at
invariant-loop-at l = Reaches l.names l.token l.name l.at

abbrev pub decreases-loop-at : goal.decreases-loop-at
decreases-loop-at l = height l.at
