use Rattle.argot_control.proofs.Led.{led_there}
use Rattle.argot_control.proofs.rows.rows_of.Goals as goal

pub returns-clause-exact : goal.returns-clause-exact
returns-clause-exact c = λ x y. (c.settle.ensures.led x y, led_there c.args.steps.now c.settle.new.rows c.settle.ensures.taken x y)
