use Rattle.argot_names_uses.proofs.TopItems.{top_node, top_gives}
use Rattle.std.proofs.Common.{◌≡◌, Some, subst}
use Rattle.std.specs.Prelude.{slice_get}
use Rattle.argot_names_uses.proofs.tops.top_item.Goals as goal

pub returns : goal.returns
returns c = λ h are names.
    let there = subst (λ ts. slice_get ts c.args.k ≡ Some c.top_at-top.result) c.deref.ensures.value c.top_at-top.ensures in
    let node = top_node h c.args.names.now c.args.owner c.args.file names c.args.k c.top_at-top.result there in
    top_gives h c.args.names.now c.args.owner c.args.file c.args.k c.top_at-top.result c.deref.result.now c.spelled_at-name.result.now c.item_of.result c.deref.ensures.value c.top_at-top.ensures c.spelled_at-name.ensures
    (c.item_of.ensures h node.0 are node.1)
