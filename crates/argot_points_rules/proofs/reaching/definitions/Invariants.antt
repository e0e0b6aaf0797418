use Rattle.std.proofs.Common.{◌≡◌, ◌++◌, drop}
use Rattle.argot_points_rules.specs.Column.{definitions}
use Rattle.argot_points_rules.proofs.reaching.definitions.Given as goal

abbrev pub invariant-loop-n : goal.invariant-loop-n
invariant-loop-n l = l.found.items ++ definitions l.program l.function l.place l.register (drop l.n l.defs) ≡ definitions l.program l.function l.place l.register l.defs
