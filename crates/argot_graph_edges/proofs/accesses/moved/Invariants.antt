use Rattle.std.proofs.Common.{◌≡◌, ◌++◌, ℕ, ◌<◌, Some, slice_get}
use Rattle.argot_graph_edges.specs.Accessing.{HasPath}
use Rattle.argot_graph_edges.proofs.accesses.moved.Given as goal

abbrev pub invariant-loop-n : goal.invariant-loop-n
invariant-loop-n l = (j z : ℕ) → j < l.n → slice_get l.near j ≡ Some z → HasPath l.points.locations z (l.here.path ++ l.path) → ⊥
