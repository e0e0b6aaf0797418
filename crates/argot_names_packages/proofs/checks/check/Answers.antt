use Rattle.argot_files.specs.Reading.{files_in}
use Rattle.argot_names_rules.specs.Faults.{IsNowhere, Cycle}
use Rattle.argot_names_packages.specs.Sound.{IsSound}
use Rattle.argot_names_packages.proofs.Refusing.{by_call, on_map}
use Rattle.argot_names_packages.proofs.checks.check.Goals as goal

pub returns-in_err-check_imports-clause-fault : goal.returns-in_err-check_imports-clause-fault
returns-in_err-check_imports-clause-fault c = λ main is.
    by_call (files_in c.args.files.now) main c.from_residual-in_err-check_imports.result c.in_err-check_imports.field-0.0 c.from_residual-in_err-check_imports.ensures.1
    (c.in_err-check_imports.ensures.fault main is (c.in_ok-check_main.ensures.fine main is) (c.in_ok-check_names.ensures.fine main is))

pub returns-clause-fault : goal.returns-clause-fault
returns-clause-fault c = λ main is. c.check_cycles.ensures.fault main is (c.in_ok-check_main.ensures.fine main is) (c.in_ok-check_names.ensures.fine main is) (c.in_ok-check_imports.ensures.fine main is)

pub returns-clause-fine : goal.returns-clause-fine
returns-clause-fine c = λ main is.
    let h = files_in c.args.files.now in
    on_map c.check_cycles.result (IsNowhere h main Cycle) (IsSound h main)
    (λ none. record { has_main = c.in_ok-check_main.ensures.fine main is; one_name = c.in_ok-check_names.ensures.fine main is; all_found = c.in_ok-check_imports.ensures.fine main is; no_cycle = none }) (c.check_cycles.ensures.fine main is)
