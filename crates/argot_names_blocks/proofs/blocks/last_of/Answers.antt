use Rattle.std.proofs.Common.{arith}
use Rattle.argot_names_blocks.proofs.Outwards.{number_fits}
use Rattle.argot_names_blocks.proofs.blocks.last_of.Goals as goal

pub overflow_cast-result : goal.overflow_cast-result
overflow_cast-result c =
    omega (arith, number_fits c.args.blocks.now c.args.count c.args.token c.requires.within c.requires.linked c.requires.before, c.ranges.token.fits)
