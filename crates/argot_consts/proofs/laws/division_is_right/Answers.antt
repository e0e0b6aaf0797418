use Rattle.argot_consts.proofs.Dividing.{division_right}
use Rattle.argot_consts.proofs.laws.division_is_right.Goals as goal

pub returns : goal.returns
returns c = division_right
