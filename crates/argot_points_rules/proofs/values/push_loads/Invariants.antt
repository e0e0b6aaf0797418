use Rattle.std.proofs.Common.{◌≡◌, ◌++◌, drop}
use Rattle.argot_points_rules.specs.Column.{loads}
use Rattle.argot_points_rules.proofs.values.push_loads.Given as goal

abbrev pub invariant-loop-n : goal.invariant-loop-n
invariant-loop-n l = l.rules.items ++ loads l.function l.to l.path (drop l.n l.found) ≡ l.fn.rules.items ++ loads l.function l.to l.path l.found
