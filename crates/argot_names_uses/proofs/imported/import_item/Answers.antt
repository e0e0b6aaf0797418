use Rattle.std.proofs.Common.{◌≡◌, Some, sym, subst}
use Rattle.std.specs.Prelude.{slice_get}
use Rattle.argot_names_rules.specs.Files.{read_of}
use Rattle.argot_files.specs.Places.{place_of}
use Rattle.argot_names_uses.proofs.NodeClasses.{some_is}
use Rattle.argot_names_uses.proofs.ImportItems.{import_node, import_gives}
use Rattle.argot_names_uses.proofs.imported.import_item.Goals as goal

pub returns-in-Some-node_of : goal.returns-in-Some-node_of
returns-in-Some-node_of c = λ h main are is known.
    let r = c.args.reached.now in
    let n = c.named_at-named.result in
    let s = known.sound c.args.k n c.named_at-named.ensures in
    let there = subst (λ ws. slice_get ws n.of ≡ Some s.import_) (sym c.deref.ensures.value) s.there in
    let node : c.in-Some-node_of.node ≡ s.import_.node = some_is c.in-Some-node_of.node s.import_.node (c.in-Some-node_of.ensures s.import_ there) in
    let x = import_node h n.scope n.name.now s.import_.node s.import_.path (place_of n.place) s.is in
    import_gives h r c.args.imports.now c.in-Some.owner c.args.k c.in-Some-node_of.node n s.import_ c.item_of.result c.named_at-named.ensures s.there node (c.in-Some.ensures.some h main is)
    (c.item_of.ensures h x.0 are (subst (λ k. slice_get (read_of h n.scope).nodes k ≡ Some x.0) (sym node) x.1))
