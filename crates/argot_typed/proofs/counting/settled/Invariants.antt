use Rattle.std.proofs.Common.{◌≡◌, ℕ, ◌<◌, length, slice_index, Some}
use Rattle.argot_typed.specs.Counts.{known_at}
use Rattle.argot_typed.proofs.counting.settled.Given as goal

abbrev pub invariant-loop-count : goal.invariant-loop-count
invariant-loop-count l = record {
  so_far : length l.numbers.items ≡ l.count-index;
  same : (t : ℕ) → t < l.count-index → known_at l.counts t ≡ Some (slice_index l.numbers.items t);
}
