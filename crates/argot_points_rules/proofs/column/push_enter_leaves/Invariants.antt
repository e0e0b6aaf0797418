use Rattle.std.proofs.Common.{◌≡◌, ◌++◌, drop}
use Rattle.argot_points_rules.specs.Column.{enter_leaves}
use Rattle.argot_points_rules.proofs.column.push_enter_leaves.Given as goal

abbrev pub invariant-loop-a : goal.invariant-loop-a
invariant-loop-a l = l.rules.items ++ enter_leaves l.function l.place l.by l.behind l.index l.a (drop l.a l.leaves) ≡ l.fn.rules.items ++ enter_leaves l.function l.place l.by l.behind l.index 0 l.leaves
