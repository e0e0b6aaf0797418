use Rattle.std.proofs.Common.{sym, ◌∙◌}
use Rattle.std.proofs.lemmas.Bool.{both_ways}
use Rattle.argot_names_tops.proofs.FirstPlaces.{behind_there, behind_none, behind_nothing}
use Rattle.argot_names_tops.proofs.behind.behind.Goals as goal

pub returns-then-is_before : goal.returns-then-is_before
returns-then-is_before c = λ others are. behind_there others c.args.entries.now are c.args.item.now c.in-Some.entry (sym c.entry_at.ensures ∙ c.in-Some.is) (c.is_before.ensures.exact.0 c.if-is_before.true)

pub returns-else-is_before : goal.returns-else-is_before
returns-else-is_before c = λ others are.
    behind_none others c.args.entries.now are c.args.item.now c.in-Some.entry (sym c.entry_at.ensures ∙ c.in-Some.is) (λ before. both_ways c.is_before.result c.if-is_before.false (c.is_before.ensures.exact.1 before))

pub returns-in-None : goal.returns-in-None
returns-in-None c = λ others are. behind_nothing others c.args.entries.now are c.args.item.now (sym c.in-None.ensures)
