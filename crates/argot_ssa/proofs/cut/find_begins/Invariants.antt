use Rattle.std.proofs.Common.{◌≡◌, ℕ, ◌<◌, true}
use Rattle.argot_ssa.specs.Edges.{IsSet, holds}
use Rattle.argot_ssa.specs.Places.{size, Cuts}
use Rattle.argot_ssa.proofs.cut.find_begins.Given as goal

abbrev pub invariant-loop-k : goal.invariant-loop-k
invariant-loop-k l = record {
  set : IsSet (size l.function) l.begins;
  entry : holds l.begins 0 ≡ true;
  cuts : (j : ℕ) → j < l.k → Cuts l.program l.function (holds l.begins) j;
}
