use Rattle.std.proofs.Common.{ℕ, ◌<◌, ◌≤◌}
use Rattle.argot_escape.specs.Flooding.{Finds, IsReady, RowLeadsTo}
use Rattle.argot_escape.proofs.starts.reach_place.Given as goal

abbrev pub invariant-loop-n : goal.invariant-loop-n
invariant-loop-n l = record {
  ready : IsReady l.points.locations l.found;
  finds : Finds (λ m. (n : ℕ) × (l.first ≤ n) × (n < l.n) × RowLeadsTo l.points n m) l.initial.found l.found;
}
