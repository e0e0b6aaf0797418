use Rattle.std.proofs.Common.{◌≡◌, ℕ, ◌<◌, ◌≤◌, length, true, Some}
use Rattle.std.specs.Prelude.{◌⊎◌, slice_get}
use Rattle.argot_names_blocks.proofs.generics.paint_true.Given as goal

abbrev pub invariant-loop-token : goal.invariant-loop-token
invariant-loop-token l = record {
  as_long : length l.table ≡ length l.fn.table;
  inside : (t : ℕ) → l.from ≤ t → t < l.token → t < length l.fn.table → slice_get l.table t ≡ Some true;
  others : (t : ℕ) → (t < l.from) ⊎ (l.to < t) → slice_get l.table t ≡ slice_get l.fn.table t;
}
