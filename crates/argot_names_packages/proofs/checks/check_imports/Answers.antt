use Rattle.argot_names_rules.specs.Faults.{FindsNone}
use Rattle.argot_files.specs.Reading.{files_in}
use Rattle.std.proofs.Common.{refl}
use Rattle.argot_names_packages.proofs.Refusing.{least_found, least_none, no_package}
use Rattle.argot_names_packages.proofs.checks.check_imports.Goals as goal

pub returns-in-Some-clause-fault : goal.returns-in-Some-clause-fault
returns-in-Some-clause-fault c = λ main is has one.
    let h = files_in c.args.files.now in
    no_package h main has one c.in-Some.spot c.position.result (least_found (FindsNone h main) c.missing.result c.in-Some.spot (c.missing.ensures h main refl is) c.in-Some.is) c.position.ensures

pub returns-in-None-clause-fine : goal.returns-in-None-clause-fine
returns-in-None-clause-fine c = λ main is.
    let h = files_in c.args.files.now in
    least_none (FindsNone h main) c.missing.result (c.missing.ensures h main refl is) c.in-None.is
