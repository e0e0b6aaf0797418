use Rattle.std.specs.Prelude.{ℕ, ◌<◌, ◌≤◌}
use Rattle.argot_control.specs.Pairs.{Gains, TargetsLead}
use Rattle.argot_control.proofs.uses.gain_function.Given as goal

abbrev pub invariant-loop-place : goal.invariant-loop-place
invariant-loop-place l = record {
  gains : Gains (λ a b. (i : ℕ) × (l.initial.place ≤ i) × (i < l.place) × TargetsLead l.program l.points l.h i a b) l.initial.pairs.items l.pairs.items;
}
