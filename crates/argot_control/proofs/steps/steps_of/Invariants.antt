use Rattle.std.specs.Prelude.{◌≡◌, ℕ, ◌<◌, [], Some, slice_get}
use Rattle.argot_control.specs.Between.{IsStepOf}
use Rattle.argot_control.specs.Numbering.{block_in}
use Rattle.argot_control.specs.Pairs.{Gains}
use Rattle.argot_control.proofs.steps.steps_of.Given as goal

abbrev pub invariant-loop-k : goal.invariant-loop-k
invariant-loop-k l = record {
  gains : Gains (λ x y. (j : ℕ) × (j < l.k) × (a : ℕ) × (b : ℕ) × (slice_get l.pairs j ≡ Some (a, b)) × IsStepOf (block_in l.numbers) a b x y) [] l.steps.items;
}
