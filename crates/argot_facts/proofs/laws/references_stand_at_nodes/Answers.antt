use Rattle.argot_facts.proofs.Standing.{stands}
use Rattle.argot_facts.proofs.laws.references_stand_at_nodes.Goals as goal

pub returns : goal.returns
returns c = λ p wf f h. stands p wf h
