use Rattle.argot_names_rules.proofs.Meanings.{one_meaning}
use Rattle.argot_names_rules.proofs.laws.one_meaning.Goals as goal

pub returns : goal.returns
returns c = one_meaning
