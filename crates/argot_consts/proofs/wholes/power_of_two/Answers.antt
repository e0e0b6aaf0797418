use Rattle.argot_consts.proofs.Shifts.{power_is}
use Rattle.argot_consts.proofs.wholes.power_of_two.Goals as goal

pub returns : goal.returns
returns c = power_is c.args.exponent c.requires
