use Rattle.argot_facts.specs.Findings.{FlowBefore}
use Rattle.argot_graph.proofs.Once.{AreKept}
use Rattle.argot_flow_ends.proofs.order.each_once.Given as goal

abbrev pub invariant-loop-k : goal.invariant-loop-k
invariant-loop-k l = AreKept FlowBefore l.flows l.kept.items l.k
