use Rattle.std.proofs.Common.{take}
use Rattle.argot_flow_ends.specs.Linking.{AddsFlows, IsLinkToSome}
use Rattle.argot_flow_ends.proofs.links.add_from.Given as goal

abbrev pub invariant-loop-k : goal.invariant-loop-k
invariant-loop-k l =
    AddsFlows (IsLinkToSome l.links.graph.now.edges l.links.graph.now.nodes l.links.problem l.source (take l.k l.links.ends.now)) l.initial.flows.items l.flows.items
