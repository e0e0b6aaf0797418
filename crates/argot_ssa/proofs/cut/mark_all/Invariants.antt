use Rattle.std.proofs.Common.{◌≡◌, ℕ, ◌-◌, ◌<◌, true, slice_index}
use Rattle.argot_ssa.specs.Edges.{IsSet, holds}
use Rattle.argot_ssa.proofs.cut.mark_all.Given as goal

abbrev pub invariant-loop-target : goal.invariant-loop-target
invariant-loop-target l = record {
  cols : l.begins.cols ≡ l.fn.begins.cols;
  set : IsSet l.begins.cols l.begins;
  kept : (a : ℕ) → holds l.fn.begins a ≡ true → holds l.begins a ≡ true;
  marked : (j : ℕ) → j < l.target-index → holds l.begins (slice_index l.targets j - l.entry) ≡ true;
}
