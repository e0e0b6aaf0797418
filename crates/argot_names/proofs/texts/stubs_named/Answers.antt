use Rattle.std.proofs.Common.{subst, sym}
use Rattle.std.specs.Prelude.{IfSome, IfNone}
use Rattle.argot_names_rules.specs.Packages.{IsFolder}
use Rattle.argot_names_rules.specs.Library.{AreNamed}
use Rattle.argot_files.specs.Reading.{files_in}
use Rattle.argot_names_imports.specs.Surveyed.{IsSurvey}
use Rattle.argot_names_imports.proofs.Options.{ok_map}
use Rattle.argot_names.proofs.Named.{are_named, none_named}
use Rattle.argot_names.proofs.texts.stubs_named.Goals as goal

pub list_named-requires : goal.list_named-requires
list_named-requires c =
    let is : IsSurvey (files_in c.args.files.now) c.args.main.now c.in-Some.survey = subst (λ o. IfSome o (IsSurvey (files_in c.args.files.now) c.args.main.now)) c.in-Some.is c.in_ok-survey.ensures.there in
    is.founds.as_many

pub returns-in-Some : goal.returns-in-Some
returns-in-Some c =
    let h = files_in c.args.files.now in
    let is : IsSurvey h c.args.main.now c.in-Some.survey = subst (λ o. IfSome o (IsSurvey h c.args.main.now)) c.in-Some.is c.in_ok-survey.ensures.there in
    ok_map c.list_named.result _ _ (are_named h c.args.main.now c.in-Some.survey is) c.list_named.ensures

pub returns-in-None : goal.returns-in-None
returns-in-None c =
    let h = files_in c.args.files.now in
    let missing : IsFolder h c.args.main.now → ⊥ = subst (λ o. IfNone o (IsFolder h c.args.main.now → ⊥)) c.in-None.is c.in_ok-survey.ensures.missing in
    subst (AreNamed h c.args.main.now) (sym c.new.ensures) (none_named h c.args.main.now missing)
