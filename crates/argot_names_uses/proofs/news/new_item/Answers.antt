use Rattle.argot_names_uses.proofs.NewItems.{new_node, new_gives}
use Rattle.std.proofs.Common.{◌≡◌, Some, subst}
use Rattle.std.specs.Prelude.{slice_get}
use Rattle.argot_names_uses.proofs.news.new_item.Goals as goal

pub returns : goal.returns
returns c = λ h are names new.
    let there = subst (λ bs. slice_get bs c.args.k ≡ Some c.brought_at-brought.result) c.deref.ensures.value c.brought_at-brought.ensures in
    let node = new_node h c.args.names.now c.args.owner c.args.file names c.args.k c.brought_at-brought.result there in
    new_gives h c.args.names.now c.args.owner c.args.file c.args.k c.brought_at-brought.result c.deref.result.now c.spelled_at-name.result.now c.item_of.result c.deref.ensures.value c.brought_at-brought.ensures c.spelled_at-name.ensures new
    (c.item_of.ensures h node.0 are node.1)
