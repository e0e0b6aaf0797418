use Rattle.std.proofs.Common.{◌≡◌, ◌++◌, drop}
use Rattle.argot_points_rules.specs.Column.{fresh_from, fresh_of}
use Rattle.argot_points_rules.proofs.column.push_fresh.Given as goal

abbrev pub invariant-loop-s : goal.invariant-loop-s
invariant-loop-s l = l.rules.items ++ fresh_from l.at.owner l.at.place l.by l.s (drop l.s l.at.program.now.sites) ≡ l.fn.rules.items ++ fresh_of l.at.program.now l.at.owner l.at.place l.by
