use Rattle.argot_config.specs.Packages.{AreNumbered}
use Rattle.argot_config.proofs.packages.Packages.new.Given as goal

abbrev pub invariant-loop-g : goal.invariant-loop-g
invariant-loop-g l = AreNumbered l.program l.paths.keys l.g l.numbers.items
