use Rattle.std.proofs.Common.{◌≡◌, ◌++◌, drop}
use Rattle.argot_points_rules.specs.Column.{enters}
use Rattle.argot_points_rules.proofs.column.push_enters.Given as goal

abbrev pub invariant-loop-k : goal.invariant-loop-k
invariant-loop-k l = l.rules.items ++ enters l.at.function.now l.at.owner l.at.place l.by l.behind l.found l.k (drop l.k l.values) ≡ l.fn.rules.items ++ enters l.at.function.now l.at.owner l.at.place l.by l.behind l.found 0 l.values
