use Rattle.std.proofs.Common.{◌≡◌, ◌++◌, drop}
use Rattle.argot_points_rules.specs.Column.{function_rules}
use Rattle.argot_points_rules.proofs.column.rules_of.Given as goal

abbrev pub invariant-loop-g : goal.invariant-loop-g
invariant-loop-g l = l.rules.items ++ function_rules l.program l.defs l.g (drop l.g l.program.functions) ≡ function_rules l.program l.defs 0 l.program.functions
