use Rattle.std.specs.Prelude.{ℕ, ◌<◌, ◌≤◌}
use Rattle.argot_control.specs.Pairs.{Gains, GoesOnAt}
use Rattle.argot_control.proofs.live.gain_nexts.Given as goal

abbrev pub invariant-loop-place : goal.invariant-loop-place
invariant-loop-place l = record {
  gains : Gains (λ a b. (i : ℕ) × (l.initial.place ≤ i) × (i < l.place) × GoesOnAt l.program i a b) l.initial.pairs.items l.pairs.items;
}
