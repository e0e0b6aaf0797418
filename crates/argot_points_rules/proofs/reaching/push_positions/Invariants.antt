use Rattle.std.proofs.Common.{◌≡◌, ◌++◌, drop}
use Rattle.argot_points_rules.specs.Column.{positions}
use Rattle.argot_points_rules.proofs.reaching.push_positions.Given as goal

abbrev pub invariant-loop-k : goal.invariant-loop-k
invariant-loop-k l = l.found.items ++ positions l.place l.register l.k (drop l.k l.list) ≡ l.fn.found.items ++ positions l.place l.register 0 l.list
