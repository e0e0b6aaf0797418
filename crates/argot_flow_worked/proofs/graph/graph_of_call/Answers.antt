use Rattle.std.proofs.Common.{◌≡◌, List, sym, subst}
use Rattle.argot_facts.specs.Graphs.{IsGraph}
use Rattle.argot_facts.specs.declared.graphs.Edge.{Edge}
use Rattle.argot_facts.specs.declared.nodes.Node.{Node}
use Rattle.argot_flow_worked.specs.Worked.{call_edges, four_nodes}
use Rattle.argot_flow_worked.proofs.Ordering.{worked_graph}
use Rattle.argot_flow_worked.proofs.graph.graph_of_call.Goals as goal

graph_of : (ns : List Node) (es : List Edge) → ns ≡ four_nodes → es ≡ call_edges → IsGraph (record { nodes = ns; edges = es })
graph_of ns es n e = subst (λ xs. IsGraph (record { nodes = xs; edges = es })) (sym n) (subst (λ ys. IsGraph (record { nodes = four_nodes; edges = ys })) (sym e) worked_graph)

pub from_parts-requires : goal.from_parts-requires
from_parts-requires c = graph_of _ _ (rw c.from_vec.ensures c.in_ok-nodes.ensures) (rw c.from_vec-2.ensures c.in_ok-edges.ensures)
