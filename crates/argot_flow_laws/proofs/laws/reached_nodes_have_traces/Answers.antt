use Rattle.argot_flow_laws.proofs.Reaching.{trace_there}
use Rattle.argot_flow_laws.proofs.laws.reached_nodes_have_traces.Goals as goal

pub returns : goal.returns
returns c = λ edges facts s exact ranks n t. trace_there edges facts exact s ranks n t
