use Rattle.std.proofs.Common.{◌≡◌, ◌-◌, ◌+◌, ◌++◌}
use Rattle.argot_points_rules.specs.Column.{place_rules}
use Rattle.argot_points_rules.proofs.column.push_function.Given as goal

abbrev pub invariant-loop-place : goal.invariant-loop-place
invariant-loop-place l = l.rules.items ++ place_rules l.program l.function l.defs l.owner l.place (l.end - l.place) ≡ l.fn.rules.items ++ place_rules l.program l.function l.defs l.owner l.function.entry (l.function.leave + 1 - l.function.entry)
