use Rattle.argot_facts.specs.Graphs.{EdgeBefore}
use Rattle.argot_graph.proofs.Once.{AreKept}
use Rattle.argot_graph.proofs.order.each_once.Given as goal

abbrev pub invariant-loop-k : goal.invariant-loop-k
invariant-loop-k l = AreKept EdgeBefore l.edges l.kept.items l.k
