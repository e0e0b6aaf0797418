use Rattle.argot_facts.specs.Reached.{IsEdgeIn}
use Rattle.argot_flow_laws.proofs.Drawing.{trace_drawn}
use Rattle.argot_flow_laws.proofs.laws.traces_are_realizable.Goals as goal

pub returns : goal.returns
returns c = λ edges s n trace t. trace_drawn (IsEdgeIn edges) s n trace t
