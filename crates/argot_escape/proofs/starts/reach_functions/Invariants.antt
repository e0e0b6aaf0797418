use Rattle.std.proofs.Common.{ℕ, take}
use Rattle.argot_plain.specs.Lists.{In}
use Rattle.argot_escape.specs.Flooding.{Finds, IsReady, FunctionLeadsTo}
use Rattle.argot_escape.proofs.starts.reach_functions.Given as goal

abbrev pub invariant-loop-g : goal.invariant-loop-g
invariant-loop-g l = record {
  ready : IsReady l.points.locations l.found;
  finds : Finds (λ m. (g : ℕ) × In g (take l.g-index l.live) × FunctionLeadsTo l.program l.points g m) l.initial.found l.found;
}
