use Rattle.std.proofs.Common.{◌≡◌, length, take}
use Rattle.argot_flow_ends.specs.Linking.{AddsFlows, IsLinkOfSome}
use Rattle.argot_flow_ends.proofs.links.add_all.Given as goal

abbrev pub invariant-loop-k : goal.invariant-loop-k
invariant-loop-k l = record {
  edges : l.reach.edges ≡ l.links.graph.now.edges;
  nodes : l.reach.nodes ≡ length l.links.graph.now.nodes;
  flows : AddsFlows (IsLinkOfSome l.links.graph.now.edges l.links.graph.now.nodes l.links.problem (take l.k l.sources) l.links.ends.now) l.initial.flows.items l.flows.items;
}
