use Rattle.std.proofs.Common.{◌≡◌, ◌++◌, drop}
use Rattle.argot_points_rules.specs.Column.{value_loads}
use Rattle.argot_points_rules.proofs.values.push_value_loads.Given as goal

abbrev pub invariant-loop-a : goal.invariant-loop-a
invariant-loop-a l = l.rules.items ++ value_loads l.function l.place l.index l.a (drop l.a l.leaves) l.found ≡ l.fn.rules.items ++ value_loads l.function l.place l.index 0 l.leaves l.found
