use Rattle.std.specs.Prelude.{◌≡◌, ℕ, ◌<◌, Some, slice_get}
use Rattle.argot_control.specs.Pairs.{Gains, UseLeads}
use Rattle.argot_control.proofs.uses.gain_targets.Given as goal

abbrev pub invariant-loop-k : goal.invariant-loop-k
invariant-loop-k l = record {
  gains : Gains (λ a b. (j : ℕ) × (j < l.k) × (target : ℕ) × (slice_get l.targets j ≡ Some target) × UseLeads l.program l.h l.place target a b) l.initial.pairs.items l.pairs.items;
}
