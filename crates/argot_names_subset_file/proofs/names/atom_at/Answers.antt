use Rattle.std.proofs.Common.{sym, ◌∙◌}
use Rattle.argot_names_subset_file.proofs.NameLemmas.{atom_name, atom_member, atom_form, atom_other}
use Rattle.argot_names_subset_file.proofs.names.atom_at.Goals as goal

pub returns-then-is_typed : goal.returns-then-is_typed
returns-then-is_typed c = atom_name c.args.view.now.file.now.nodes c.args.view.now.typed.now c.args.k c.in_ok-node.node (sym c.in_ok-node.ensures) c.in-NameUse.is (c.is_typed.ensures.0 c.if-is_typed.true)

pub returns-then-is_typed-2 : goal.returns-then-is_typed-2
returns-then-is_typed-2 c = atom_member c.args.view.now.file.now.nodes c.args.view.now.typed.now c.args.k c.in_ok-node.node (sym c.in_ok-node.ensures) c.in-SelectedName.is (c.is_typed-in-SelectedName.ensures.0 c.if-is_typed-2.true) c.selector_of.result c.selector_of.ensures

pub returns-then-is_type_form : goal.returns-then-is_type_form
returns-then-is_type_form c =
    atom_form c.args.view.now.file.now.nodes c.args.view.now.typed.now c.args.k c.in_ok-node.node (sym c.in_ok-node.ensures) c.in_default.not-NameUse c.in_default.not-SelectedName
    (sym c.is_type_form.ensures ∙ c.if-is_type_form.true)

pub returns-else-is_type_form : goal.returns-else-is_type_form
returns-else-is_type_form c =
    atom_other c.args.view.now.file.now.nodes c.args.view.now.typed.now c.args.k c.in_ok-node.node (sym c.in_ok-node.ensures) c.in_default.not-NameUse c.in_default.not-SelectedName
    (sym c.is_type_form.ensures ∙ c.if-is_type_form.false)
