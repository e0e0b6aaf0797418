use Rattle.std.proofs.Common.{ℕ, ◌<◌, ◌≤◌}
use Rattle.argot_escape.specs.Flooding.{Finds, IsReady, AtLeadsTo}
use Rattle.argot_escape.proofs.reaching.reach_index.Given as goal

abbrev pub invariant-loop-n : goal.invariant-loop-n
invariant-loop-n l = record {
  ready : IsReady l.points.locations l.found;
  finds : Finds (λ m. (n : ℕ) × (l.first ≤ n) × (n < l.n) × AtLeadsTo l.points l.index n m) l.initial.found l.found;
}
