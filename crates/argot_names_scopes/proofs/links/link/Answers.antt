use Rattle.std.proofs.Common.{◌+◌, ◌++◌, ◌∷◌, [], Some, sym, ap, ◌∙◌, refl}
use Rattle.argot_names_scopes.specs.Tables.{IsLastNew, number_at}
use Rattle.argot_names_scopes.proofs.Tabling.{after_put}
use Rattle.argot_names_scopes.proofs.Linking.{no_newer, newer, stays, covers_at, with_new, other_key}
use Rattle.argot_names_scopes.proofs.links.link.Goals as goal

pub returns-in_ok-insert : goal.returns-in_ok-insert
returns-in_ok-insert c =
    with_new c.args.bytes.now c.args.tokens.now c.args.brought.now c.args.news.now c.args.k c.args.lasts.now c.insert.new.self c.args.befores.now.items c.push.new.self.items c.item_at-b.result c.requires.so_far
    (c.in_ok-push.ensures.items ∙ ap (λ x. c.args.befores.now.items ++ x ∷ []) (c.number_at-last.ensures ∙ ap (number_at c.args.lasts.now c.item_at-b.result.opens) c.spelled_at-text.ensures)) c.item_at-b.ensures
    (after_put (λ o t r. IsLastNew c.args.bytes.now c.args.tokens.now c.args.brought.now c.args.news.now o t (c.args.k + 1) r) c.args.lasts.now c.insert.new.self c.item_at-b.result.opens c.spelled_at-text.result c.args.k c.in_ok-insert.ensures.updates.0
    (newer c.args.bytes.now c.args.tokens.now c.args.brought.now c.args.news.now c.item_at-b.result.opens c.spelled_at-text.result.now c.args.k (record { item = c.item_at-b.result; named = record { there = c.item_at-b.ensures; block = refl; spells = sym c.spelled_at-text.ensures }; new = c.new_at.ensures ∙ ap (λ x. Some x) c.if-new_at.true }))
    (λ o t not. no_newer c.args.bytes.now c.args.tokens.now c.args.brought.now c.args.news.now o t c.args.k _ (c.requires.so_far.are_last o t) (λ n. other_key c.args.bytes.now c.args.tokens.now c.args.brought.now c.args.news.now o t c.args.k c.item_at-b.result n c.item_at-b.ensures (λ e f. not e (c.spelled_at-text.ensures ∙ f)))))

pub returns-else-new_at : goal.returns-else-new_at
returns-else-new_at c =
    with_new c.args.bytes.now c.args.tokens.now c.args.brought.now c.args.news.now c.args.k c.args.lasts.now c.args.lasts.now c.args.befores.now.items c.push.new.self.items c.item_at-b.result c.requires.so_far
    (c.in_ok-push.ensures.items ∙ ap (λ x. c.args.befores.now.items ++ x ∷ []) (c.number_at-last.ensures ∙ ap (number_at c.args.lasts.now c.item_at-b.result.opens) c.spelled_at-text.ensures)) c.item_at-b.ensures
    (λ o t. no_newer c.args.bytes.now c.args.tokens.now c.args.brought.now c.args.news.now o t c.args.k _ (c.requires.so_far.are_last o t) (λ n. let new = n.new in let old = c.if-new_at.ensures in absurd (cc)))

pub returns-then-is_covered : goal.returns-then-is_covered
returns-then-is_covered c =
    with_new c.args.bytes.now c.args.tokens.now c.args.brought.now c.args.news.now c.args.k c.args.lasts.now c.args.lasts.now c.args.befores.now.items c.push.new.self.items c.item_at-b.result c.requires.so_far
    (c.in_ok-push.ensures.items ∙ ap (λ x. c.args.befores.now.items ++ x ∷ []) (c.number_at-last.ensures ∙ ap (number_at c.args.lasts.now c.item_at-b.result.opens) c.spelled_at-text.ensures)) c.item_at-b.ensures
    (let over = c.is_covered.ensures c.if-is_covered.true in
    stays c.args.bytes.now c.args.tokens.now c.args.brought.now c.args.news.now c.args.k over.0 c.args.lasts.now c.item_at-b.result c.requires.so_far.are_last c.item_at-b.ensures
    (ap (number_at c.args.lasts.now c.item_at-b.result.opens) (sym c.spelled_at-text.ensures) ∙ (sym c.number_at-last.ensures ∙ over.2))
    (covers_at c.args.bytes.now c.args.tokens.now c.args.brought.now c.args.news.now over.0 c.args.k over.1 c.item_at-b.result over.3 c.item_at-b.ensures over.4))
