use Rattle.std.specs.Prelude.{◌≡◌, ◌⊎◌, ℕ, ◌<◌, Some, slice_get}
use Rattle.argot_control.specs.Pairs.{Gains, GoesOnIn, ExitsIn}
use Rattle.argot_control.proofs.live.gain_live.Given as goal

abbrev pub invariant-loop-k : goal.invariant-loop-k
invariant-loop-k l = record {
  gains : Gains (λ a b. (j : ℕ) × (j < l.k) × (h : ℕ) × (slice_get l.live j ≡ Some h) × (GoesOnIn l.program h a b ⊎ ExitsIn l.program h a b)) l.initial.pairs.items l.pairs.items;
}
