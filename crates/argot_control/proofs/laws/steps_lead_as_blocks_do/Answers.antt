use Rattle.argot_facts.specs.Handed.{FactsOf}
use Rattle.argot_control.proofs.Between.{led_as_rows}
use Rattle.argot_control.proofs.laws.steps_lead_as_blocks_do.Goals as goal

pub returns : goal.returns
returns c = λ p x block steps are a b. led_as_rows p (FactsOf p x) block steps are a b
