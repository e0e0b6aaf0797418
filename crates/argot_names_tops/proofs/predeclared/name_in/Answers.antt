use Rattle.argot_names_rules.specs.Universe.{predeclared}
use Rattle.argot_names_tops.proofs.Among.{name_at}
use Rattle.argot_names_tops.proofs.predeclared.name_in.Goals as goal

pub returns : goal.returns
returns c = name_at c.args.names.now predeclared _ c.args.number c.requires.names c.requires.number
