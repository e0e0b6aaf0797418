use Rattle.std.proofs.Common.{ℕ, ◌<◌, ◌≤◌, ◌-◌, length}
use Rattle.argot_points.specs.Meaning.{IsRow}
use Rattle.argot_points.proofs.system.System.row.Given as goal

abbrev pub invariant-loop-low : goal.invariant-loop-low
invariant-loop-low l = record {
  ends : l.low ≤ l.high;
  inside : l.high ≤ length l.self.nodes.items;
  low_end : (m : ℕ) → IsRow l.self m l.node → l.low ≤ m;
  high_end : (m : ℕ) → IsRow l.self m l.node → m < l.high;
}

abbrev pub decreases-loop-low : goal.decreases-loop-low
decreases-loop-low l = l.high - l.low
