use Rattle.std.proofs.Common.{◌≡◌, true, false, Some, None, slice_get, sym, ap, ◌∙◌}
use Rattle.argot_files.specs.Reading.{files_in}
use Rattle.argot_names_imports.proofs.Options.{ok_map}
use Rattle.argot_names_packages.specs.Clauses.{name_in}
use Rattle.argot_names_packages.specs.Mains.{is_main_name}
use Rattle.argot_names_packages.proofs.MainFiles.{main_spelled, has_main_is, not_named, not_there}
use Rattle.argot_names_packages.proofs.main_function.has_main.Goals as goal

pub has_main_file-requires : goal.has_main_file-requires
has_main_file-requires c =
    let at : slice_get c.args.survey.now.reached.keys 0 ≡ Some c.in-Some.first = sym c.get_index.ensures.key ∙ sym c.copied.ensures ∙ c.in-Some.is in
    main_spelled (files_in c.args.files.now) c.requires.survey.0 c.args.survey.now c.requires.survey.1 c.requires.agrees c.in-Some.first at

pub returns-then-is_main_name : goal.returns-then-is_main_name
returns-then-is_main_name c = λ main is.
    let h = files_in c.args.files.now in
    let at : slice_get c.args.survey.now.reached.keys 0 ≡ Some c.in-Some.first = sym c.get_index.ensures.key ∙ sym c.copied.ensures ∙ c.in-Some.is in
    let named : is_main_name (name_in h c.in-Some.first) ≡ true = ap is_main_name (sym c.clause_name.ensures) ∙ sym c.is_main_name.ensures ∙ c.if-is_main_name.true in
    ok_map c.has_main_file.result _ _ (has_main_is h main c.args.survey.now is c.in-Some.first at named) c.has_main_file.ensures

pub returns-else-is_main_name : goal.returns-else-is_main_name
returns-else-is_main_name c = λ main is.
    let h = files_in c.args.files.now in
    let at : slice_get c.args.survey.now.reached.keys 0 ≡ Some c.in-Some.first = sym c.get_index.ensures.key ∙ sym c.copied.ensures ∙ c.in-Some.is in
    let named : is_main_name (name_in h c.in-Some.first) ≡ false = ap is_main_name (sym c.clause_name.ensures) ∙ sym c.is_main_name.ensures ∙ c.if-is_main_name.false in
    not_named h main c.args.survey.now is c.in-Some.first at named

pub returns-in-None : goal.returns-in-None
returns-in-None c = λ main is.
    let at : slice_get c.args.survey.now.reached.keys 0 ≡ None = sym c.get_index.ensures.key ∙ sym c.copied.ensures ∙ c.in-None.is in
    not_there (files_in c.args.files.now) main c.args.survey.now is at
