use Rattle.std.specs.Prelude.{◌≡◌, ℕ, ◌<◌, Some, slice_get}
use Rattle.argot_control.specs.Pairs.{Gains}
use Rattle.argot_control.proofs.uses.gain_all.Given as goal

abbrev pub invariant-loop-k : goal.invariant-loop-k
invariant-loop-k l = record {
  gains : Gains (λ a b. (j : ℕ) × (j < l.k) × (slice_get l.more j ≡ Some (a, b))) l.initial.pairs.items l.pairs.items;
}
