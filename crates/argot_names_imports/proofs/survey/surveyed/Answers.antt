use Rattle.std.proofs.Common.{◌≡◌, ◌∙◌, subst, sym}
use Rattle.argot_names_imports.specs.Found.{HasTables}
use Rattle.argot_names_imports.specs.Founds.{AreFounds}
use Rattle.argot_names_imports.specs.Graph.{AreReached}
use Rattle.argot_files.specs.Reading.{files_in}
use Rattle.argot_names_imports.proofs.ReachedFrom.{survey_is, reached_same, leader_within, target_within, start_within}
use Rattle.argot_names_imports.proofs.survey.surveyed.Goals as goal
use Rattle.argot_names_imports.proofs.survey.surveyed.Goals.{After-deref-4, In_ok-reached}

-- what the imports find
finds : (c : After-deref-4) → AreFounds (files_in c.args.files.now) c.deref-3.result.now c.deref-4.result.now
finds c =
    let h = files_in c.args.files.now in
    let module_is : c.args.files.now.sources.now.module ≡ c.as_bytes.result.now = sym (c.as_bytes.ensures.value ∙ c.as_str.ensures) in
    let tables : HasTables h c.as_bytes.result.now c.args.folders.now c.args.libraries.now = subst (λ m. HasTables h m c.args.folders.now c.args.libraries.now) module_is c.requires.tables in
    let is : AreFounds h c.deref.result.now c.in_ok-founds.founds.items = c.in_ok-founds.ensures h tables in
    subst (λ fs. AreFounds h c.deref-3.result.now fs) (sym c.deref-4.ensures.value) (subst (λ ws. AreFounds h ws c.in_ok-founds.founds.items) (c.deref.ensures.value ∙ sym c.deref-3.ensures.value) is)

pub packages_from-requires-clause-as_many : goal.packages_from-requires-clause-as_many
packages_from-requires-clause-as_many c = (finds c).as_many

pub packages_from-requires-clause-below : goal.packages_from-requires-clause-below
packages_from-requires-clause-below c =
    leader_within (files_in c.args.files.now) c.args.files.now.sources.now.module c.args.folders.now c.args.libraries.now c.requires.tables c.deref-2.result.now (c.deref-2.ensures.value ∙ c.in_ok-leaders.ensures)

pub packages_from-requires-clause-targets : goal.packages_from-requires-clause-targets
packages_from-requires-clause-targets c =
    target_within (files_in c.args.files.now) c.args.files.now.sources.now.module c.args.folders.now c.args.libraries.now c.requires.tables c.deref-2.result.now (c.deref-2.ensures.value ∙ c.in_ok-leaders.ensures)
    c.deref-3.result.now c.deref-4.result.now (finds c)

pub packages_from-requires-clause-start : goal.packages_from-requires-clause-start
packages_from-requires-clause-start c =
    start_within (files_in c.args.files.now) c.args.files.now.sources.now.module c.args.folders.now c.args.libraries.now c.requires.tables c.deref-2.result.now (c.deref-2.ensures.value ∙ c.in_ok-leaders.ensures)
    c.requires.start.0 c.args.start c.requires.start.1

pub returns : goal.returns
returns c = λ main at.
    let h = files_in c.args.files.now in
    let module_is : c.args.files.now.sources.now.module ≡ c.as_bytes.result.now = sym (c.as_bytes.ensures.value ∙ c.as_str.ensures) in
    let tables : HasTables h c.as_bytes.result.now c.args.folders.now c.args.libraries.now = subst (λ m. HasTables h m c.args.folders.now c.args.libraries.now) module_is c.requires.tables in
    let is_found : AreFounds h c.in_ok-imports.imports.items c.in_ok-founds.founds.items = subst (λ ws. AreFounds h ws c.in_ok-founds.founds.items) c.deref.ensures.value (c.in_ok-founds.ensures h tables) in
    let reached : AreReached c.in_ok-leaders.leaders.items c.in_ok-imports.imports.items c.in_ok-founds.founds.items c.args.start c.in_ok-reached.reached.keys =
    reached_same c.deref-2.result.now c.in_ok-leaders.leaders.items c.deref-3.result.now c.in_ok-imports.imports.items c.deref-4.result.now c.in_ok-founds.founds.items c.args.start c.in_ok-reached.reached.keys
    c.deref-2.ensures.value c.deref-3.ensures.value c.deref-4.ensures.value c.in_ok-reached.ensures.all in
    survey_is h c.args.files.now.sources.now.module c.args.folders.now c.args.libraries.now c.requires.tables main c.args.start at
    c.in_ok-imports.imports c.in_ok-founds.founds c.in_ok-leaders.leaders c.in_ok-reached.reached c.in_ok-imports.ensures is_found c.in_ok-leaders.ensures c.in_ok-reached.ensures.first reached
