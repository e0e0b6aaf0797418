use Rattle.argot_names_scopes.proofs.Answering.{first_some, first_none}
use Rattle.argot_names_scopes.proofs.file.first_of.Goals as goal

pub returns-clause-some : goal.returns-clause-some
returns-clause-some c =
    let n = c.args.names.now in
    first_some n c.requires c.deref.result.now c.args.token c.args.opens c.earliest_of.result c.deref.ensures.value c.earliest_of.ensures

pub returns-clause-none : goal.returns-clause-none
returns-clause-none c =
    let n = c.args.names.now in
    first_none n c.requires c.deref.result.now c.args.token c.args.opens c.earliest_of.result c.deref.ensures.value c.earliest_of.ensures
