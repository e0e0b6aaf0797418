use Rattle.std.proofs.Common.{◌≡◌, ◌<◌, ℕ, Some, slice_get}
use Rattle.argot_graph_edges.proofs.calls.leaf_of.Given as goal

abbrev pub invariant-loop-leaf : goal.invariant-loop-leaf
invariant-loop-leaf l = (a : ℕ) → a < l.leaf → slice_get l.leaves a ≡ Some l.path → ⊥
