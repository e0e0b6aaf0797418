use Rattle.std.proofs.Common.{ℕ, ◌≤◌, ◌++◌}
use Rattle.argot_facts.specs.Numbers.{location}
use Rattle.argot_points.specs.Meaning.{IsColumn}
use Rattle.argot_points.proofs.system.System.column.Given as goal

abbrev pub invariant-loop-n : goal.invariant-loop-n
invariant-loop-n l = (m : ℕ) → IsColumn l.self m (location l.site (l.front ++ l.rest)) → l.n ≤ m
