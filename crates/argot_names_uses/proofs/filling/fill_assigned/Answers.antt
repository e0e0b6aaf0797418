use Rattle.std.proofs.Common.{◌≡◌, ◌+◌, Some, subst}
use Rattle.std.specs.Prelude.{slice_get}
use Rattle.argot_names_rules.specs.Bindings.{Brings}
use Rattle.argot_names_blocks.specs.Binding.{manner_of}
use Rattle.argot_names_uses.specs.Numbers.{StandsBy}
use Rattle.argot_names_uses.specs.UseTables.{Seen}
use Rattle.argot_names_uses.proofs.NodeRoles.{brought_there}
use Rattle.argot_names_uses.proofs.Filled.{filled_more, number_there, unless_nothing}
use Rattle.argot_names_uses.proofs.Gone.{seen_assigned}
use Rattle.argot_names_uses.proofs.filling.fill_assigned.Goals as goal

pub assigned_number-decl-requires-clause-brought : goal.assigned_number-decl-requires-clause-brought
assigned_number-decl-requires-clause-brought c = c.requires.names.brings.brought.sound c.brought_at-brought.result (c.args.k, subst (λ xs. slice_get xs c.args.k ≡ Some c.brought_at-brought.result) c.deref.ensures.value c.brought_at-brought.ensures)

pub returns : goal.returns
returns c h main home decls lone members here filled =
    let b = c.brought_at-brought.result in
    let at = subst (λ xs. slice_get xs c.args.k ≡ Some b) c.deref.ensures.value c.brought_at-brought.ensures in
    let brings = c.requires.names.brings.brought.sound b (c.args.k, at) in
    let there = brought_there _ (manner_of b.manner) b.node b.token b.opens b.closes b.from (subst (λ t. Brings t (manner_of b.manner) b.node b.token b.opens b.closes b.from) here.names.nodes brings) in
    filled_more h main home decls c.args.known.now c.args.names.now c.args.package c.args.file here (Seen c.args.names.now c.args.file lone members c.args.k) (Seen c.args.names.now c.args.file lone members (c.args.k + 1)) ⊥ b.node there.0 there.1 c.args.table.now.items filled
    (seen_assigned c.args.names.now c.args.file lone members c.args.k b at) c.node_number.result c.assigned_number-decl.result c.put.new.table.items
    (number_there h main home decls c.args.known.now c.args.names.now c.args.package c.args.file here b.node there.0 c.node_number.result there.1 (λ t tree low. c.node_number.ensures h.trees t here.known.bases_are tree low))
    (unless_nothing (StandsBy h home decls c.args.file b.node) c.assigned_number-decl.result (c.assigned_number-decl.ensures h main home decls here)) c.put.ensures
