use Rattle.std.specs.Prelude.{◌≡◌, ℕ, ◌<◌, Some, slice_get}
use Rattle.argot_control.specs.Pairs.{Gains}
use Rattle.argot_control.proofs.live.gain_branch.Given as goal

abbrev pub invariant-loop-k : goal.invariant-loop-k
invariant-loop-k l = record {
  gains : Gains (λ a b. (a ≡ l.place) × (j : ℕ) × (j < l.k) × (slice_get l.targets j ≡ Some b)) l.initial.pairs.items l.pairs.items;
}
