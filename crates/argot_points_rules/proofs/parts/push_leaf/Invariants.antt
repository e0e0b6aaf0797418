use Rattle.std.proofs.Common.{◌≡◌, ◌++◌, drop}
use Rattle.argot_points_rules.specs.Column.{leaf_copies}
use Rattle.argot_points_rules.proofs.parts.push_leaf.Given as goal

abbrev pub invariant-loop-a : goal.invariant-loop-a
invariant-loop-a l = l.rules.items ++ leaf_copies l.function l.to l.q l.path l.a (drop l.a l.from) l.found ≡ l.fn.rules.items ++ leaf_copies l.function l.to l.q l.path 0 l.from l.found
