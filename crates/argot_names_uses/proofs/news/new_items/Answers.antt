use Rattle.std.proofs.Common.{◌≡◌, true, false, Some, sym, ◌∙◌, ap, subst, arith}
use Rattle.std.specs.Prelude.{slice_get}
use Rattle.argot_names_imports.proofs.Lists.{get_there}
use Rattle.argot_names_uses.specs.Givers.{GivesNew}
use Rattle.argot_names_uses.proofs.Giving.{given_none}
use Rattle.argot_names_uses.proofs.NewItems.{news_more, news_same, news_all}
use Rattle.argot_names_uses.proofs.news.new_items.Goals as goal
use Rattle.argot_names_uses.proofs.news.new_items.Goals.{then-is_new+in_ok-new_item+in_ok-push, else-is_new}

pub loop-k-init : goal.loop-k-init
loop-k-init c = λ h are names. given_none (GivesNew h c.args.names.now c.args.owner c.args.file) c.new-items.result.items c.new-items.ensures.items

pub loop-k-preserved : goal.loop-k-preserved
loop-k-preserved c = λ h are names.
    let n = c.args.names.now in
    let f = get_there n.news.items c.loop-k.k (omega (arith, c.loop-k-test.true, names.names.are_new.as_long)) in
    let flag : slice_get n.news.items c.loop-k.k ≡ Some c.is_new.result = f.1 ∙ ap (λ b. Some b) (sym (c.is_new.ensures f.0 (subst (λ bs. slice_get bs c.loop-k.k ≡ Some f.0) (sym c.deref.ensures.value) f.1))) in
    elim c.if-is_new.branch [
      | then-is_new+in_ok-new_item+in_ok-push w ↦
          let new : slice_get n.news.items c.loop-k.k ≡ Some true = flag ∙ ap (λ b. Some b) w.if-is_new.true in
          news_more h n c.args.owner c.args.file names c.loop-k.k c.loop-k.items.items c.if-is_new.items.items w.in_ok-new_item.field-0 (c.loop-k.invariant h are names) (w.in_ok-new_item.ensures h are names new) (ap (λ v. v.items) w.items-is ∙ w.in_ok-push.ensures.items)
      | else-is_new w ↦
          let old : slice_get n.news.items c.loop-k.k ≡ Some false = flag ∙ ap (λ b. Some b) w.if-is_new.false in
          news_same h n c.args.owner c.args.file names c.loop-k.k c.loop-k.items.items c.if-is_new.items.items (c.loop-k.invariant h are names) old (ap (λ v. v.items) w.items-is)
    ]

pub returns : goal.returns
returns c = λ h main r are names is of.
    news_all h main r is c.args.names.now c.args.owner c.args.file of names c.loop-k.k c.loop-k.items.items (omega (arith, c.loop-k-test.false)) (c.loop-k.invariant h are names)
