use Rattle.argot_consts.proofs.Bitwise.{bits_right}
use Rattle.argot_consts.proofs.laws.bits_are_right.Goals as goal

pub returns : goal.returns
returns c = bits_right
