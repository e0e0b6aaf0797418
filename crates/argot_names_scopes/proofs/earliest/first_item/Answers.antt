use Rattle.std.proofs.Common.{sym, ◌∙◌}
use Rattle.argot_names_scopes.proofs.Earlier.{item_is, no_item}
use Rattle.argot_names_scopes.proofs.earliest.first_item.Goals as goal

pub item_at-requires : goal.item_at-requires
item_at-requires c = ((c.requires c.args.opens c.args.text.now).there c.in-Some.k (sym c.get.ensures.value ∙ sym c.copied.ensures ∙ c.in-Some.is)).1

pub returns-in-Some : goal.returns-in-Some
returns-in-Some c =
    item_is c.args.bytes.now c.args.tokens.now c.args.brought.now c.args.opens c.args.text.now _ c.in-Some.k c.item_at.result (c.requires c.args.opens c.args.text.now) (sym c.get.ensures.value ∙ sym c.copied.ensures ∙ c.in-Some.is) c.item_at.ensures

pub returns-in-None : goal.returns-in-None
returns-in-None c = no_item c.args.bytes.now c.args.tokens.now c.args.brought.now c.args.opens c.args.text.now _ (c.requires c.args.opens c.args.text.now) (sym c.get.ensures.value ∙ sym c.copied.ensures ∙ c.in-None.is)
