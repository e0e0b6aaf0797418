use Rattle.std.proofs.Common.{◌≡◌, length}
use Rattle.argot_typed.specs.Counts.{AreRight, unknown_count}
use Rattle.argot_typed.proofs.counting.leaf_counts.Given as goal

abbrev pub invariant-loop : goal.invariant-loop
invariant-loop l = record {
  as_many : length l.counts.items ≡ length l.shapes;
  right : AreRight l.shapes l.counts.items;
}

abbrev pub decreases-loop : goal.decreases-loop
decreases-loop l = unknown_count l.counts.items
