use Rattle.std.proofs.Common.{◌≡◌, ◌++◌, drop}
use Rattle.argot_points_rules.specs.Column.{returns}
use Rattle.argot_points_rules.proofs.column.push_returns.Given as goal

abbrev pub invariant-loop-k : goal.invariant-loop-k
invariant-loop-k l = l.rules.items ++ returns l.at.function.now l.at.owner l.at.place l.by l.k (drop l.k l.results) ≡ l.fn.rules.items ++ returns l.at.function.now l.at.owner l.at.place l.by 0 l.results
