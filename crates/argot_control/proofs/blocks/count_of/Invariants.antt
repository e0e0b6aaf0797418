use Rattle.std.specs.Prelude.{◌≡◌, ℕ, ◌<◌, Some, slice_get}
use Rattle.argot_control.proofs.blocks.count_of.Given as goal

abbrev pub invariant-loop-k : goal.invariant-loop-k
invariant-loop-k l = record {
  above : (j b : ℕ) → j < l.k → slice_get l.numbers j ≡ Some b → b < l.count;
}
