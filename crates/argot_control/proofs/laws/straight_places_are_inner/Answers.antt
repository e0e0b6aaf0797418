use Rattle.argot_facts.specs.Handed.{FactsOf}
use Rattle.argot_control.proofs.Straight.{inner}
use Rattle.argot_control.proofs.laws.straight_places_are_inner.Goals as goal

pub returns : goal.returns
returns c = λ p x i wf on. inner p (FactsOf p x) i wf on
