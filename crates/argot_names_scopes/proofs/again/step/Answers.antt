use Rattle.std.proofs.Common.{◌+◌, sym, subst, ◌∙◌}
use Rattle.argot_files.proofs.Listed.{some_is}
use Rattle.argot_names_scopes.specs.Again.{IsAgainIn, IsFirstAgain}
use Rattle.argot_names_scopes.proofs.Repeating.{no_more, more}
use Rattle.argot_names_scopes.proofs.again.step.Goals as goal

pub returns-then-is_again : goal.returns-then-is_again
returns-then-is_again c =
    subst (IsFirstAgain c.args.bytes.now c.args.tokens.now c.args.brought.now (c.args.k + 1)) (sym c.sooner_of.ensures)
    (more c.args.bytes.now c.args.tokens.now c.args.brought.now c.args.k c.args.first c.item_at-item.result c.start_of.result c.requires.so_far c.item_at-item.ensures (c.is_again.ensures.there c.if-is_again.true) (sym c.start_of.ensures))

pub returns : goal.returns
returns c =
    no_more c.args.bytes.now c.args.tokens.now c.args.brought.now c.args.k c.args.first c.requires.so_far (λ offset a.
    c.is_again.ensures.none c.if-is_again.false (subst (IsAgainIn c.args.bytes.now c.args.tokens.now c.args.brought.now) (some_is a.item c.item_at-item.result (sym a.there ∙ c.item_at-item.ensures)) a.again))
