use Rattle.argot_names_scopes.proofs.Answering.{meant_some, meant_none}
use Rattle.argot_names_scopes.proofs.file.meant_at.Goals as goal

pub returns-clause-some : goal.returns-clause-some
returns-clause-some c = meant_some c.args.names.now c.requires c.args.token c.args.name.now c.local_meant.result c.local_meant.ensures

pub returns-clause-none : goal.returns-clause-none
returns-clause-none c = meant_none c.args.names.now c.requires c.args.token c.args.name.now c.local_meant.result c.local_meant.ensures
