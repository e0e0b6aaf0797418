use Rattle.std.proofs.Common.{◌≡◌, ◌++◌, drop}
use Rattle.argot_points_rules.specs.Column.{copies}
use Rattle.argot_points_rules.proofs.values.push_copies.Given as goal

abbrev pub invariant-loop-n : goal.invariant-loop-n
invariant-loop-n l = l.rules.items ++ copies l.function l.to l.leaf (drop l.n l.found) ≡ l.fn.rules.items ++ copies l.function l.to l.leaf l.found
