use Rattle.std.proofs.Common.{◌≡◌, ℕ, ◌<◌, ◌≤◌, ◌-◌, Some, length}
use Rattle.std.specs.Prelude.{slice_get}
use Rattle.argot_facts.specs.Graphs.{IsBefore}
use Rattle.argot_facts.specs.declared.nodes.Node.{Node}
use Rattle.argot_facts.proofs.nodes.first_from.Given as goal

abbrev pub invariant-loop-low : goal.invariant-loop-low
invariant-loop-low l = record {
  ends : l.low ≤ l.high;
  inside : l.high ≤ length l.nodes;
  low_end : (m : ℕ) (a : Node) → slice_get l.nodes m ≡ Some a → m < l.low → IsBefore a l.node;
  high_end : (m : ℕ) (a : Node) → slice_get l.nodes m ≡ Some a → l.high ≤ m → IsBefore a l.node → ⊥;
}

abbrev pub decreases-loop-low : goal.decreases-loop-low
decreases-loop-low l = l.high - l.low
