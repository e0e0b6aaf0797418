use Rattle.std.proofs.Common.{◌≡◌, ◌++◌, drop}
use Rattle.argot_points_rules.specs.Column.{value_copies}
use Rattle.argot_points_rules.proofs.values.push_value_copies.Given as goal

abbrev pub invariant-loop-a : goal.invariant-loop-a
invariant-loop-a l = l.rules.items ++ value_copies l.function l.place l.index l.a (drop l.a l.leaves) l.found ≡ l.fn.rules.items ++ value_copies l.function l.place l.index 0 l.leaves l.found
