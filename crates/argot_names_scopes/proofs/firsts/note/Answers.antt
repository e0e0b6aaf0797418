use Rattle.std.proofs.Common.{◌≡◌, ◌+◌, Some, refl, sym, ◌∙◌, subst, arith}
use Rattle.argot_names_scopes.specs.Tables.{IsFirstNamed, number_at}
use Rattle.argot_names_scopes.proofs.Tabling.{after_put}
use Rattle.argot_names_scopes.proofs.FirstNames.{still, now_first}
use Rattle.argot_names_scopes.proofs.firsts.note.Goals as goal

pub returns-then-stands_before : goal.returns-then-stands_before
returns-then-stands_before c o t =
    still c.args.bytes.now c.args.tokens.now c.args.brought.now o t c.args.k (number_at c.args.firsts.now o t) c.item_at-b.result (c.requires.so_far o t) c.item_at-b.ensures (λ block spells.
    let low = c.if-stands_before.ensures.there refl in
    let first = c.copied-first.ensures ∙ c.get.ensures.value in
    let moved = subst (λ x. number_at c.args.firsts.now x t ≡ Some low.0) block (subst (λ x. number_at c.args.firsts.now c.item_at-b.result.opens x ≡ Some low.0) (c.spelled_at.ensures ∙ spells) (sym first ∙ low.2)) in
    (low.0, low.1, moved, low.3, low.4))

pub returns : goal.returns
returns c =
    after_put (λ o t r. IsFirstNamed c.args.bytes.now c.args.tokens.now c.args.brought.now o t (c.args.k + 1) r) c.args.firsts.now c.insert.new.self c.item_at-b.result.opens c.spelled_at.result c.args.k c.in_ok-insert.ensures.updates.0
    (now_first c.args.bytes.now c.args.tokens.now c.args.brought.now c.item_at-b.result.opens c.spelled_at.result.now c.args.k _ c.item_at-b.result (c.requires.so_far c.item_at-b.result.opens c.spelled_at.result.now) c.item_at-b.ensures refl (sym c.spelled_at.ensures) (λ j b e g. let low = c.if-stands_before.ensures.none refl j b (c.copied-first.ensures ∙ c.get.ensures.value ∙ e) g in omega (arith, low)))
    (λ o t not. still c.args.bytes.now c.args.tokens.now c.args.brought.now o t c.args.k (number_at c.args.firsts.now o t) c.item_at-b.result (c.requires.so_far o t) c.item_at-b.ensures (λ block spells. absurd (not block (c.spelled_at.ensures ∙ spells))))
