use Rattle.std.proofs.Common.{◌≡◌, ℕ, ◌<◌, true}
use Rattle.argot_ssa.specs.Edges.{IsSet, holds}
use Rattle.argot_ssa.proofs.work.fill.Given as goal

abbrev pub invariant-loop-a : goal.invariant-loop-a
invariant-loop-a l = record {
  set : IsSet l.n l.set;
  full : (b : ℕ) → b < l.a → holds l.set b ≡ true;
}
