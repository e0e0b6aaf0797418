use Rattle.std.proofs.Common.{subst, arith}
use Rattle.argot_names_uses.specs.UseTables.{IsFilled, Seen}
use Rattle.argot_names_uses.proofs.filling.fill_all_assigned.Goals as goal

pub loop-k-init : goal.loop-k-init
loop-k-init c h main home decls lone members here filled = filled

pub loop-k-preserved : goal.loop-k-preserved
loop-k-preserved c h main home decls lone members here filled = c.fill_assigned.ensures h main home decls lone members here (c.loop-k.invariant h main home decls lone members here filled)

pub returns : goal.returns
returns c h main home decls lone members here filled =
    subst (λ x. IsFilled h c.args.known.now.reached.now decls (Seen c.args.names.now c.args.file lone members x) c.loop-k.table.items) (omega (arith, c.loop-k-test.false, c.loop-k.auto.k-end, c.len-k-end.ensures)) (c.loop-k.invariant h main home decls lone members here filled)
