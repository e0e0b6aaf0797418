use Rattle.argot_flow_laws.proofs.Unfolding.{unfolds}
use Rattle.argot_flow_laws.proofs.laws.facts_unfold.Goals as goal

pub returns : goal.returns
returns c = λ edges facts exact p n r h. unfolds edges facts exact p n r h
