use Rattle.std.proofs.Common.{◌-◌, length}
use Rattle.argot_names_imports.proofs.Graphs.{IsReachedTo}
use Rattle.argot_names_imports.proofs.reaching.reach_from.Given as goal

abbrev pub invariant-loop-node : goal.invariant-loop-node
invariant-loop-node l = IsReachedTo l.graph.lists l.start l.reached l.at

abbrev pub decreases-loop-node : goal.decreases-loop-node
decreases-loop-node l = length l.graph.lists - l.at
