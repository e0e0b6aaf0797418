use Rattle.std.proofs.Common.{◌<◌, length, ap, add-one, arith}
use Rattle.argot_ssa.specs.Form.{as_triple}
use Rattle.argot_ssa.proofs.Whole.{in_place}
use Rattle.argot_ssa.proofs.all.turn_all.Goals as goal

pub loop-row-preserved : goal.loop-row-preserved
loop-row-preserved c =
    let test = c.loop-row-test.true in
    let count = c.loop-row.auto.row-items in
    let value = ap length c.deref_mut-row-items.ensures.value in
    let low : c.loop-row.row-index < length c.args.rows.now.items = omega arith in
    rw (add-one, c.loop-row.invariant) (in_place as_triple (0, 0, 0) c.args.rows.now.items c.loop-row.row-index low)
