use Rattle.argot_files.specs.Reading.{files_in}
use Rattle.argot_names_packages.proofs.Refusing.{by_call}
use Rattle.argot_names.proofs.loading.load.Goals as goal

pub names_of-requires-clause-reach : goal.names_of-requires-clause-reach
names_of-requires-clause-reach c = (c.args.main.now, c.in_ok-reached.ensures.ok)

pub returns-in_err-reached-clause-fault : goal.returns-in_err-reached-clause-fault
returns-in_err-reached-clause-fault c = by_call (files_in c.args.files.now) c.args.main.now c.from_residual.result c.in_err-reached.field-0.0 c.from_residual.ensures.1 c.in_err-reached.ensures.fault

pub returns-in_err-names-clause-fault : goal.returns-in_err-names-clause-fault
returns-in_err-names-clause-fault c =
    by_call (files_in c.args.files.now) c.args.main.now c.from_residual-in_err-names.result c.in_err-names.field-0.0 c.from_residual-in_err-names.ensures.1 (c.in_err-names.ensures c.args.main.now c.in_ok-reached.ensures.ok).fault

pub returns-clause-ok : goal.returns-clause-ok
returns-clause-ok c =
    let main = c.args.main.now in
    let reach = c.in_ok-reached.ensures.ok in
    c.packages_from.ensures (files_in c.args.files.now) main reach (c.in_ok-names.ensures main reach).ok

pub returns-clause-fine : goal.returns-clause-fine
returns-clause-fine c = (c.in_ok-names.ensures c.args.main.now c.in_ok-reached.ensures.ok).fine
