use Rattle.std.proofs.Common.{◌≡◌, ◌++◌, drop}
use Rattle.argot_points_rules.specs.Column.{shifts}
use Rattle.argot_points_rules.proofs.values.push_shifts.Given as goal

abbrev pub invariant-loop-n : goal.invariant-loop-n
invariant-loop-n l = l.rules.items ++ shifts l.function l.to l.path (drop l.n l.found) ≡ l.fn.rules.items ++ shifts l.function l.to l.path l.found
