use Rattle.std.proofs.Common.{arith}
use Rattle.argot_names_uses.specs.Givers.{GivesTop}
use Rattle.argot_names_uses.proofs.Giving.{given_none}
use Rattle.argot_names_uses.proofs.TopItems.{tops_more, tops_all}
use Rattle.argot_names_uses.proofs.tops.top_items.Goals as goal

pub loop-k-init : goal.loop-k-init
loop-k-init c = λ h are names. given_none (GivesTop h c.args.names.now c.args.owner c.args.file) c.new-items.result.items c.new-items.ensures.items

pub loop-k-preserved : goal.loop-k-preserved
loop-k-preserved c = λ h are names.
    tops_more h c.args.names.now c.args.owner c.args.file names c.loop-k.k c.loop-k.items.items c.push.new.self.items c.in_ok-top_item.field-0 (c.loop-k.invariant h are names) (c.in_ok-top_item.ensures h are names) c.in_ok-push.ensures.items

pub returns : goal.returns
returns c = λ h main r are names is of.
    tops_all h main r is c.args.names.now c.args.owner c.args.file of names c.loop-k.k c.loop-k.items.items (omega (arith, c.loop-k-test.false)) (c.loop-k.invariant h are names)
