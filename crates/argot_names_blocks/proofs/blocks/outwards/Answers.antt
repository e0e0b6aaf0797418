use Rattle.std.proofs.Common.{◌<◌, sym, subst}
use Rattle.argot_names_blocks.proofs.Outwards.{height, bounds_first, bounds_next, outer_lower}
use Rattle.argot_names_blocks.proofs.blocks.outwards.Goals as goal

pub loop-at-init : goal.loop-at-init
loop-at-init c = bounds_first c.args.blocks.now c.args.count c.args.token c.last_of-at.result c.last_of-at.ensures.none c.last_of-at.ensures.last

pub loop-at-smaller : goal.loop-at-smaller
loop-at-smaller c =
    subst (λ x. height c.block_at-block.result.outer < height x) (sym c.in-Some.is) (outer_lower c.args.blocks.now c.args.count c.args.token c.requires.linked c.requires.before c.in-Some.k c.block_at-block.result c.block_at-block.ensures)

pub loop-at-preserved : goal.loop-at-preserved
loop-at-preserved c =
    bounds_next c.args.blocks.now c.args.count c.args.token c.requires.linked c.requires.before c.loop-at.at c.in-Some.k c.block_at-block.result c.loop-at.invariant c.in-Some.is c.block_at-block.ensures c.if-token-block.false
