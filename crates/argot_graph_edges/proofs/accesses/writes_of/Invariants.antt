use Rattle.std.proofs.Common.{[], take}
use Rattle.argot_graph_edges.specs.Accessing.{AddsPairs, Written}
use Rattle.argot_graph_edges.proofs.accesses.writes_of.Given as goal

abbrev pub invariant-loop-n : goal.invariant-loop-n
invariant-loop-n l = AddsPairs (Written l.points (take l.n l.rules)) [] l.pairs.items
