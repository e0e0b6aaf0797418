use Rattle.argot_names_rules.specs.Faults.{IsSecondName}
use Rattle.argot_files.specs.Reading.{files_in}
use Rattle.argot_names_packages.proofs.Refusing.{least_found, least_none, two_names, by_memory}
use Rattle.argot_names_packages.proofs.checks.check_names.Goals as goal

pub returns-in_err-spot-clause-fault : goal.returns-in_err-spot-clause-fault
returns-in_err-spot-clause-fault c = λ main is has. by_memory (files_in c.args.files.now) main c.from_residual.result c.from_residual.ensures.1

pub returns-in-Some-clause-fault : goal.returns-in-Some-clause-fault
returns-in-Some-clause-fault c = λ main is has.
    let h = files_in c.args.files.now in
    two_names h main has c.in-Some.spot c.position.result (least_found (IsSecondName h main) c.in_ok-spot.field-0 c.in-Some.spot (c.in_ok-spot.ensures main is) c.in-Some.is) c.position.ensures

pub returns-in-None-clause-fine : goal.returns-in-None-clause-fine
returns-in-None-clause-fine c = λ main is.
    let h = files_in c.args.files.now in
    least_none (IsSecondName h main) c.in_ok-spot.field-0 (c.in_ok-spot.ensures main is) c.in-None.is
