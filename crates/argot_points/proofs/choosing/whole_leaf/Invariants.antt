use Rattle.std.proofs.Common.{◌≡◌, ℕ, ◌<◌, [], Some}
use Rattle.std.specs.Prelude.{slice_get}
use Rattle.argot_points.proofs.choosing.whole_leaf.Given as goal

abbrev pub invariant-loop-leaf : goal.invariant-loop-leaf
invariant-loop-leaf l = (a : ℕ) → a < l.leaf → slice_get l.leaves a ≡ Some [] → ⊥
