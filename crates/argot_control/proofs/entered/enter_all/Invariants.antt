use Rattle.std.specs.Prelude.{◌≡◌, ℕ, ◌<◌, Some, slice_get}
use Rattle.argot_control.specs.Numbering.{Marks}
use Rattle.argot_control.proofs.entered.enter_all.Given as goal

abbrev pub invariant-loop-k : goal.invariant-loop-k
invariant-loop-k l = record {
  marks : Marks (λ m. (j : ℕ) × (j < l.k) × (slice_get l.places j ≡ Some m)) l.initial.flags.items l.flags.items;
}
