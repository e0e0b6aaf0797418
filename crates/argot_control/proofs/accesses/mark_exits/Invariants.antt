use Rattle.std.specs.Prelude.{ℕ, ◌<◌}
use Rattle.argot_control.specs.Accesses.{GainsFlags, DefersIn}
use Rattle.argot_control.proofs.accesses.mark_exits.Given as goal

abbrev pub invariant-loop-h : goal.invariant-loop-h
invariant-loop-h l = record {
  gains : GainsFlags (λ m. (h : ℕ) × (h < l.h) × DefersIn l.program h m) l.initial.flags.items l.flags.items;
}
