use Rattle.std.proofs.Common.{◌≡◌, true, false, pos, int_lt, arith}
use Rattle.std.proofs.lemmas.Int.{to_z-of_z}
use Rattle.argot_consts.proofs.Shifts.{past_right_below, past_right_from}
use Rattle.argot_consts.proofs.wholes.right_shift.Goals as goal

pub returns-then-a-lt0 : goal.returns-then-a-lt0
returns-then-a-lt0 c =
    let fits = c.ranges.a in
    let below : int_lt c.args.a (pos 0) ≡ true = simp to_z-of_z at c.if-a-lt0.true in
    past_right_below c.args.a c.args.count fits (omega arith) below

pub returns-else-a-lt0 : goal.returns-else-a-lt0
returns-else-a-lt0 c =
    let fits = c.ranges.a in
    let from : int_lt c.args.a (pos 0) ≡ false = simp to_z-of_z at c.if-a-lt0.false in
    past_right_from c.args.a c.args.count fits (omega arith) from
