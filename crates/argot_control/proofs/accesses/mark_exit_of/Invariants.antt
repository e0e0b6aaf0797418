use Rattle.std.specs.Prelude.{ℕ, ◌<◌, ◌≤◌}
use Rattle.argot_control.specs.Accesses.{GainsFlags, DefersAt}
use Rattle.argot_control.proofs.accesses.mark_exit_of.Given as goal

abbrev pub invariant-loop-place : goal.invariant-loop-place
invariant-loop-place l = record {
  gains : GainsFlags (λ m. (i : ℕ) × (l.initial.place ≤ i) × (i < l.place) × DefersAt l.program l.h i m) l.initial.flags.items l.flags.items;
}
