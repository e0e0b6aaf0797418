use Rattle.argot_names_scopes.proofs.Answering.{again_some, again_none}
use Rattle.argot_names_scopes.proofs.file.redeclared.Goals as goal

pub returns-clause-some : goal.returns-clause-some
returns-clause-some c =
    let n = c.args.names.now in
    again_some n c.requires c.deref.result.now c.first_again.result c.deref.ensures.value c.first_again.ensures

pub returns-clause-none : goal.returns-clause-none
returns-clause-none c =
    let n = c.args.names.now in
    again_none n c.requires c.deref.result.now c.first_again.result c.deref.ensures.value c.first_again.ensures
