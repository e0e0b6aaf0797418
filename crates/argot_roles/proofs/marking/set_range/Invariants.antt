use Rattle.std.proofs.Common.{◌≤◌, ◌<◌}
use Rattle.argot_roles.specs.Marking.{Marks}
use Rattle.argot_roles.proofs.marking.set_range.Given as goal

abbrev pub invariant-loop-n : goal.invariant-loop-n
invariant-loop-n l = Marks (λ m. (l.low ≤ m) × (m < l.n)) l.initial.flags.items l.flags.items
