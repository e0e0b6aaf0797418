use Rattle.argot_consts.proofs.Dividing.{right_shift_right}
use Rattle.argot_consts.proofs.laws.right_shift_is_right.Goals as goal

pub returns : goal.returns
returns c = right_shift_right
