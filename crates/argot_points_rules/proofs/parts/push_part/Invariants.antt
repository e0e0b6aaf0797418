use Rattle.std.proofs.Common.{◌≡◌, ◌++◌, drop}
use Rattle.argot_points_rules.specs.Column.{part_copies}
use Rattle.argot_points_rules.proofs.parts.push_part.Given as goal

abbrev pub invariant-loop-a : goal.invariant-loop-a
invariant-loop-a l = l.rules.items ++ part_copies l.function l.place l.path l.later l.a (drop l.a l.to) l.from l.found ≡ l.fn.rules.items ++ part_copies l.function l.place l.path l.later 0 l.to l.from l.found
