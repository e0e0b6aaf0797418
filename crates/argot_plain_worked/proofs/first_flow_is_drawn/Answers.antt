use Rattle.std.proofs.Common.{refl}
use Rattle.argot_plain_worked.proofs.Edges.{seven_nodes, six_edges}
use Rattle.argot_plain_worked.proofs.first_flow_is_drawn.Goals as goal

pub returns-clause-places : goal.returns-clause-places
returns-clause-places c = λ l. (refl, refl)

pub returns-clause-nodes : goal.returns-clause-nodes
returns-clause-nodes c = seven_nodes

pub returns-clause-edges : goal.returns-clause-edges
returns-clause-edges c = six_edges
