use Rattle.std.proofs.Common.{◌≡◌, ◌++◌, drop}
use Rattle.argot_points_rules.specs.Column.{keeps}
use Rattle.argot_points_rules.proofs.values.push_keeps.Given as goal

abbrev pub invariant-loop-n : goal.invariant-loop-n
invariant-loop-n l = l.rules.items ++ keeps l.function l.to l.target (drop l.n l.found) ≡ l.fn.rules.items ++ keeps l.function l.to l.target l.found
