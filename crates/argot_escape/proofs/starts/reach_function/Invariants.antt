use Rattle.std.proofs.Common.{ℕ, ◌<◌, ◌≤◌}
use Rattle.argot_escape.specs.Flooding.{Finds, IsReady, GoLeadsTo}
use Rattle.argot_escape.proofs.starts.reach_function.Given as goal

abbrev pub invariant-loop-place : goal.invariant-loop-place
invariant-loop-place l = record {
  ready : IsReady l.points.locations l.found;
  finds : Finds (λ m. (i : ℕ) × (l.initial.place ≤ i) × (i < l.place) × GoLeadsTo l.program l.points i m) l.initial.found l.found;
}
