use Rattle.argot_consts.proofs.Bitwise.{bits_all}
use Rattle.argot_consts.proofs.laws.bits_are_all.Goals as goal

pub returns : goal.returns
returns c = bits_all
