use Rattle.std.proofs.Common.{◌≡◌, [], Some, None, ◌∙◌, refl, sym, ap}
use Rattle.argot_names_imports.specs.Firsts.{found_at}
use Rattle.argot_files.specs.Reading.{files_in}
use Rattle.argot_names_imports.proofs.Finding.{folder_missing}
use Rattle.argot_names_imports.proofs.survey.survey_from.Goals as goal

pub returns-in_default-clause-missing : goal.returns-in_default-clause-missing
returns-in_default-clause-missing c =
    let none : found_at c.in_ok-folders.folders c.args.main.now ≡ None = ap (found_at c.in_ok-folders.folders) (sym c.as_bytes.ensures.value) ∙ sym c.get.ensures.value ∙ sym c.copied.ensures ∙ c.in_default.is in
    folder_missing (files_in c.args.files.now) c.args.files.now.sources.now.module [] c.in_ok-folders.folders c.in_ok-libraries.libraries
    (record { module_is = refl; folders_are = c.in_ok-folders.ensures; libraries_are = c.in_ok-libraries.ensures }) c.args.main.now none

pub surveyed-requires-clause-tables : goal.surveyed-requires-clause-tables
surveyed-requires-clause-tables c = record { module_is = refl; folders_are = c.in_ok-folders.ensures; libraries_are = c.in_ok-libraries.ensures }

pub surveyed-requires-clause-start : goal.surveyed-requires-clause-start
surveyed-requires-clause-start c = (c.as_bytes.result.now, sym c.get.ensures.value ∙ sym c.copied.ensures ∙ c.in-Some.is)

pub returns-clause-there : goal.returns-clause-there
returns-clause-there c =
    let at : found_at c.in_ok-folders.folders c.args.main.now ≡ Some c.in-Some.start = ap (found_at c.in_ok-folders.folders) (sym c.as_bytes.ensures.value) ∙ sym c.get.ensures.value ∙ sym c.copied.ensures ∙ c.in-Some.is in
    c.in_ok-made.ensures c.args.main.now at
