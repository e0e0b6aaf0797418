use Rattle.argot_facts.specs.Reached.{IsEdgeIn}
use Rattle.argot_flow_laws.proofs.Balanced.{facts_join}
use Rattle.argot_flow_laws.proofs.Stacks.{lists_reach}
use Rattle.argot_flow_laws.proofs.laws.lists_and_facts.Goals as goal

pub returns : goal.returns
returns c = λ edges a b. (lists_reach (IsEdgeIn edges), facts_join (IsEdgeIn edges))
