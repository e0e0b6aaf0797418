use Rattle.std.proofs.Common.{sym, subst}
use Rattle.argot_names_rules.specs.Subset.{HasEntry}
use Rattle.argot_answers.proofs.Tests.{not_iff, no_iff}
use Rattle.argot_names_subset_file.proofs.ReceiverLemmas.{no_list, without_named, entry_named, without_nameless, entry_nameless}
use Rattle.argot_names_subset_file.proofs.receivers.is_without.Goals as goal

pub returns-in_default : goal.returns-in_default
returns-in_default c = no_iff (no_list c.args.view.now.file.now c.args.view.now.entries.now c.args.path.now c.args.name.now c.args.list c.in_default.ensures)

pub returns-in-Some-base_of : goal.returns-in-Some-base_of
returns-in-Some-base_of c =
    not_iff c.has_entry.result c.has_entry.ensures
    (λ none. without_named c.args.view.now.file.now c.args.view.now.entries.now c.args.path.now c.args.name.now c.args.list c.in-Some.type_ c.in-Some-base_of.token c.in-Some.ensures c.in-Some-base_of.ensures
    (λ h. none (subst (λ r. HasEntry c.args.view.now.entries.now c.args.path.now r c.args.name.now) (sym c.text.ensures) h)))
    (λ entry w. entry_named c.args.view.now.file.now c.args.view.now.entries.now c.args.path.now c.args.name.now c.args.list c.in-Some.type_ c.in-Some-base_of.token c.in-Some.ensures c.in-Some-base_of.ensures
    (subst (λ r. HasEntry c.args.view.now.entries.now c.args.path.now r c.args.name.now) c.text.ensures entry) w)

pub returns-in-None : goal.returns-in-None
returns-in-None c =
    not_iff c.has_entry-in-None.result c.has_entry-in-None.ensures
    (λ none. without_nameless c.args.view.now.file.now c.args.view.now.entries.now c.args.path.now c.args.name.now c.args.list c.in-Some.type_ c.in-Some.ensures c.in-None.ensures none)
    (λ entry w. entry_nameless c.args.view.now.file.now c.args.view.now.entries.now c.args.path.now c.args.name.now c.args.list c.in-Some.type_ c.in-Some.ensures c.in-None.ensures entry w)
