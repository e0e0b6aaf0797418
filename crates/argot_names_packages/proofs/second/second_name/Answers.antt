use Rattle.std.proofs.Common.{◌+◌, sym, subst, arith}
use Rattle.argot_names_rules.specs.Faults.{IsSecondName}
use Rattle.argot_files.specs.Reading.{files_in}
use Rattle.argot_names_packages.specs.Spots.{IsLeast, IsBelow}
use Rattle.argot_names_packages.specs.Second.{IsSecondAt}
use Rattle.argot_names_packages.proofs.Least.{least_start, least_step, least_all}
use Rattle.argot_names_packages.proofs.Seconds.{second_there, second_is}
use Rattle.argot_names_packages.proofs.second.second_name.Goals as goal

pub loop-file-init : goal.loop-file-init
loop-file-init c = least_start (IsSecondAt c.args.survey.now (files_in c.args.files.now))

pub loop-file-preserved : goal.loop-file-preserved
loop-file-preserved c =
    let At = IsSecondAt c.args.survey.now (files_in c.args.files.now) in
    subst (IsLeast (IsBelow At (c.loop-file.file + 1))) (sym c.sooner-least.ensures) (least_step At c.loop-file.file c.loop-file.least c.second_at.result c.loop-file.invariant c.second_at.ensures)

pub returns : goal.returns
returns c = λ main is.
    let h = files_in c.args.files.now in
    let count = c.in-Ok.ensures.1 in
    least_all (IsSecondAt c.args.survey.now h) (IsSecondName h main) c.loop-file.file c.loop-file.least
    (λ k place m. let r = second_is h main c.args.survey.now is k place m in (omega (arith, r.0, count), r.1))
    (second_there h main c.args.survey.now is) c.loop-file.invariant
