use Rattle.std.proofs.Common.{◌≡◌, ◌++◌, drop}
use Rattle.argot_points_rules.specs.Column.{move_copies}
use Rattle.argot_points_rules.proofs.parts.push_move.Given as goal

abbrev pub invariant-loop-a : goal.invariant-loop-a
invariant-loop-a l = l.rules.items ++ move_copies l.function l.place l.path l.a (drop l.a l.to) l.from l.found ≡ l.fn.rules.items ++ move_copies l.function l.place l.path 0 l.to l.from l.found
