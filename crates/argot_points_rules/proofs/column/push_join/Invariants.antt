use Rattle.std.proofs.Common.{◌≡◌, ◌++◌, drop}
use Rattle.argot_points_rules.specs.Column.{join_copies}
use Rattle.argot_points_rules.proofs.column.push_join.Given as goal

abbrev pub invariant-loop-n : goal.invariant-loop-n
invariant-loop-n l = l.rules.items ++ join_copies l.at.program.now l.at.function.now l.at.defs.now l.at.owner l.at.place l.to (drop l.n l.parts) ≡ l.fn.rules.items ++ join_copies l.at.program.now l.at.function.now l.at.defs.now l.at.owner l.at.place l.to l.parts
