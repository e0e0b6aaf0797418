use Rattle.argot_config.proofs.Bounds.{problem_fits}
use Rattle.argot_config.proofs.fitting.problem.Goals as goal

pub returns-clause-fits : goal.returns-clause-fits
returns-clause-fits c = problem_fits c.args.program.now c.index.result.now c.args.k c.in_ok-made.made c.in_ok-made.ensures
