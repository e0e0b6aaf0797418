use Rattle.std.proofs.Common.{subst}
use Rattle.std.specs.Prelude.{IfSome, IfNone}
use Rattle.argot_names_rules.specs.Packages.{IsFolder}
use Rattle.argot_names_rules.specs.Faults.{no_main}
use Rattle.argot_files.specs.Reading.{files_in}
use Rattle.argot_names_imports.specs.Surveyed.{IsSurvey}
use Rattle.argot_names_packages.proofs.Refusing.{by_memory}
use Rattle.argot_names_packages.proofs.ReachedPackages.{keys_below, leaders_below, reach_is}
use Rattle.argot_names_packages.proofs.reaching.reach.Goals as goal

pub returns-in_err-survey-clause-fault : goal.returns-in_err-survey-clause-fault
returns-in_err-survey-clause-fault c = by_memory (files_in c.args.files.now) c.args.main.now c.from_residual.result c.from_residual.ensures.1

pub returns-in_default-clause-fault : goal.returns-in_default-clause-fault
returns-in_default-clause-fault c =
    let h = files_in c.args.files.now in
    let missing : IsFolder h c.args.main.now → ⊥ = subst (λ o. IfNone o (IsFolder h c.args.main.now → ⊥)) c.in_default.is c.in_ok-survey.ensures.missing in
    no_main (λ m. missing (m.file, m.of))

pub packages_of-requires-clause-leaders : goal.packages_of-requires-clause-leaders
packages_of-requires-clause-leaders c =
    let h = files_in c.args.files.now in
    let is : IsSurvey h c.args.main.now c.in-Some.survey = subst (λ o. IfSome o (IsSurvey h c.args.main.now)) c.in-Some.is c.in_ok-survey.ensures.there in
    leaders_below h c.args.main.now c.in-Some.survey is

pub packages_of-requires-clause-firsts : goal.packages_of-requires-clause-firsts
packages_of-requires-clause-firsts c =
    let h = files_in c.args.files.now in
    let is : IsSurvey h c.args.main.now c.in-Some.survey = subst (λ o. IfSome o (IsSurvey h c.args.main.now)) c.in-Some.is c.in_ok-survey.ensures.there in
    keys_below h c.args.main.now c.in-Some.survey is

pub returns-in_err-packages-clause-fault : goal.returns-in_err-packages-clause-fault
returns-in_err-packages-clause-fault c = by_memory (files_in c.args.files.now) c.args.main.now c.from_residual-in_err-packages.result c.from_residual-in_err-packages.ensures.1

pub returns-clause-ok : goal.returns-clause-ok
returns-clause-ok c =
    let h = files_in c.args.files.now in
    let is : IsSurvey h c.args.main.now c.in-Some.survey = subst (λ o. IfSome o (IsSurvey h c.args.main.now)) c.in-Some.is c.in_ok-survey.ensures.there in
    reach_is h c.args.main.now c.in-Some.survey is c.requires.library (c.in_ok-check.ensures.fine c.args.main.now is) c.in_ok-packages.packages c.in_ok-packages.ensures
