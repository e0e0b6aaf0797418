use Rattle.std.proofs.Common.{◌≡◌, length, subst, arith}
use Rattle.argot_names_tops.specs.declared.named.Named.{Named}
use Rattle.argot_names_tops.specs.Collecting.{AreCollected}
use Rattle.argot_names_tops.specs.Behind.{GivesPackaged}
use Rattle.argot_names_tops.proofs.Results.{none_of_each}
use Rattle.argot_names_tops.proofs.Gathering.{collected_none, collected_more}
use Rattle.argot_names_tops.proofs.packaged.packaged_imports.Goals as goal

pub loop-k-init : goal.loop-k-init
loop-k-init c = λ h main is. collected_none (GivesPackaged h c.args.reached.now) c.args.imports.now c.new-out.result.items c.new-out.ensures.items

pub loop-k-preserved : goal.loop-k-preserved
loop-k-preserved c = λ h main is.
    collected_more (GivesPackaged h c.args.reached.now) c.args.imports.now c.loop-k.k c.item_at.result.now c.loop-k.out.items c.push_some.new.out.items c.packaged.result c.item_at.ensures (c.loop-k.invariant h main is)
    (c.packaged.ensures.some h main is)
    (none_of_each (λ (n : Named). GivesPackaged h c.args.reached.now c.loop-k.k c.item_at.result.now n → ⊥) c.packaged.result (λ n. c.packaged.ensures.none h main n is))
    c.in_ok-push_some.ensures

pub returns : goal.returns
returns c = λ h main is.
    let at : c.loop-k.k ≡ length c.args.imports.now = omega (arith, c.loop-k-test.false) in
    subst (λ k. AreCollected (GivesPackaged h c.args.reached.now) c.args.imports.now k c.loop-k.out.items) at (c.loop-k.invariant h main is)
