use Rattle.std.proofs.Common.{◌≡◌, ℕ, ◌<◌, ◌⊎◌, length, slice_index}
use Rattle.argot_ssa.proofs.asks.set_all.Given as goal

abbrev pub invariant-loop-r : goal.invariant-loop-r
invariant-loop-r l = record {
  count : length l.values ≡ length l.fn.values;
  set : (j : ℕ) → j < l.r-index → slice_index l.values (slice_index l.registers j) ≡ l.value;
  others : (r : ℕ) → (slice_index l.values r ≡ slice_index l.fn.values r) ⊎ ((j : ℕ) × (j < l.r-index) × (slice_index l.registers j ≡ r));
}
