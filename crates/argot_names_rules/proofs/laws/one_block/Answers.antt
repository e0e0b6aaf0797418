use Rattle.argot_names_rules.proofs.Nesting.{one_block}
use Rattle.argot_names_rules.proofs.laws.one_block.Goals as goal

pub returns : goal.returns
returns c = one_block
