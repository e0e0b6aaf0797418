use Rattle.argot_names_rules.proofs.Nesting.{blocks_nest}
use Rattle.argot_names_rules.proofs.laws.blocks_nest.Goals as goal

pub returns : goal.returns
returns c = blocks_nest
