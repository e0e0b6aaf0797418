use Rattle.std.proofs.Common.{◌≡◌, ◌++◌, drop}
use Rattle.argot_points_rules.specs.Column.{stores}
use Rattle.argot_points_rules.proofs.values.push_stores.Given as goal

abbrev pub invariant-loop-n : goal.invariant-loop-n
invariant-loop-n l = l.rules.items ++ stores l.function l.path l.source (drop l.n l.found) ≡ l.fn.rules.items ++ stores l.function l.path l.source l.found
