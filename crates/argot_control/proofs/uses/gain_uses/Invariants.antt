use Rattle.std.specs.Prelude.{ℕ, ◌<◌}
use Rattle.argot_control.specs.Pairs.{Gains, UsesLead}
use Rattle.argot_control.proofs.uses.gain_uses.Given as goal

abbrev pub invariant-loop-h : goal.invariant-loop-h
invariant-loop-h l = record {
  gains : Gains (λ a b. (h : ℕ) × (h < l.h) × UsesLead l.program l.points h a b) l.initial.pairs.items l.pairs.items;
}
