use Rattle.argot_facts.specs.Handed.{FactsOf}
use Rattle.argot_control.proofs.Behind.{follows_are}
use Rattle.argot_control.proofs.laws.follows_by_blocks.Goals as goal

pub returns : goal.returns
returns c = λ p x block are a b. follows_are p (FactsOf p x) block are a b
