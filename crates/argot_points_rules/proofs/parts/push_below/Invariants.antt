use Rattle.std.proofs.Common.{◌≡◌, ◌++◌, drop}
use Rattle.argot_points_rules.specs.Column.{below_copies}
use Rattle.argot_points_rules.proofs.parts.push_below.Given as goal

abbrev pub invariant-loop-a : goal.invariant-loop-a
invariant-loop-a l = l.rules.items ++ below_copies l.function l.to l.path l.q l.a (drop l.a l.from) l.found ≡ l.fn.rules.items ++ below_copies l.function l.to l.path l.q 0 l.from l.found
