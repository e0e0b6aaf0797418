use Rattle.std.proofs.Common.{◌≡◌, length, subst, arith}
use Rattle.argot_names_tops.specs.Collecting.{AreCollected}
use Rattle.argot_names_tops.specs.TopNames.{GivesTop}
use Rattle.argot_names_tops.proofs.Gathering.{collected_none, collected_more}
use Rattle.argot_names_tops.proofs.declared_names.scoped_tops.Goals as goal

pub loop-k-init : goal.loop-k-init
loop-k-init c = collected_none (GivesTop c.args.bytes.now c.args.tokens.now c.args.scope c.args.file) c.args.tops.now c.new-out.result.items c.new-out.ensures.items

pub loop-k-preserved : goal.loop-k-preserved
loop-k-preserved c =
    collected_more (GivesTop c.args.bytes.now c.args.tokens.now c.args.scope c.args.file) c.args.tops.now c.loop-k.k c.top_at.result c.loop-k.out.items c.push_some.new.out.items _
    c.top_at.ensures c.loop-k.invariant c.scoped_top.ensures.some c.scoped_top.ensures.none c.in_ok-push_some.ensures

pub returns : goal.returns
returns c =
    let at : c.loop-k.k ≡ length c.args.tops.now = omega (arith, c.loop-k-test.false) in
    subst (λ k. AreCollected (GivesTop c.args.bytes.now c.args.tokens.now c.args.scope c.args.file) c.args.tops.now k c.loop-k.out.items) at c.loop-k.invariant
