use Rattle.std.proofs.Common.{◌≡◌, map, take}
use Rattle.argot_graph.specs.Turning.{turned}
use Rattle.argot_graph.proofs.turning.turned_all.Given as goal

abbrev pub invariant-loop-k : goal.invariant-loop-k
invariant-loop-k l = l.all.items ≡ map turned (take l.k l.edges)
