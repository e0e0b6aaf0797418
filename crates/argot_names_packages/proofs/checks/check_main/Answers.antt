use Rattle.std.proofs.Common.{◌≡◌, true, false, sym, ◌∙◌}
use Rattle.argot_names_rules.specs.Faults.{no_main}
use Rattle.argot_files.specs.Reading.{files_in}
use Rattle.argot_names_packages.proofs.Refusing.{by_memory}
use Rattle.argot_names_packages.proofs.checks.check_main.Goals as goal

pub returns-in_err-has_main-clause-fault : goal.returns-in_err-has_main-clause-fault
returns-in_err-has_main-clause-fault c = λ main is. by_memory (files_in c.args.files.now) main c.from_residual.result c.from_residual.ensures.1

pub returns-else-branch-clause-fault : goal.returns-else-branch-clause-fault
returns-else-branch-clause-fault c = λ main is. no_main (λ m. true_false (sym ((c.in_ok-has_main.ensures main is).1 m) ∙ c.if-branch.false))
  where
    true_false : true ≡ false → ⊥
    true_false e = cc
