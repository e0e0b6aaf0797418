use Rattle.std.specs.Prelude.{◌≡◌, ◌<◌, ◌≤◌}
use Rattle.argot_control.specs.Pairs.{Gains}
use Rattle.argot_control.proofs.live.gain_exit.Given as goal

abbrev pub invariant-loop-place : goal.invariant-loop-place
invariant-loop-place l = record {
  gains : Gains (λ a b. (l.entry ≤ a) × (a < l.place) × (b ≡ l.exit)) l.initial.pairs.items l.pairs.items;
}
