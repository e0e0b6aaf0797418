use Rattle.std.proofs.Common.{◌≡◌, ℕ, ◌+◌, ◌<◌, ◌⊎◌, true, length, slice_index}
use Rattle.argot_plain.specs.Lists.{In}
use Rattle.argot_ssa.specs.Edges.{leads}
use Rattle.argot_ssa.specs.Places.{reads_at, defines_at, IsLocal, IsExposed}
use Rattle.argot_ssa.specs.Paths.{Row, IsLocalRow}
use Rattle.argot_ssa.proofs.asks.read_all.Given as goal

abbrev pub invariant-loop-r : goal.invariant-loop-r
invariant-loop-r l = record {
  heads : length l.asks.lists ≡ length l.latest;
  asks_kept : (a b : ℕ) → leads l.fn.asks.lists a b ≡ true → leads l.asks.lists a b ≡ true;
  asks_only : (a b : ℕ) → leads l.asks.lists a b ≡ true → (leads l.fn.asks.lists a b ≡ true) ⊎ ((b ≡ l.k) × (reads_at l.program l.function a l.k ≡ true) × IsExposed l.heads (defines_at l.program l.function a) l.k);
  asks_there : (j : ℕ) → j < l.r-index → IsExposed l.heads (defines_at l.program l.function (slice_index l.registers j)) l.k → leads l.asks.lists (slice_index l.registers j) l.k ≡ true;
  rows_kept : (x : Row) → In x l.fn.rows.items → In x l.rows.items;
  rows_only : (x : Row) → In x l.rows.items → In x l.fn.rows.items ⊎ IsLocalRow l.program l.function l.heads l.k x;
  rows_there : (j : ℕ) → j < l.r-index → (d : ℕ) → IsLocal l.heads (defines_at l.program l.function (slice_index l.registers j)) d l.k → In (l.function.entry + l.k, slice_index l.registers j, l.function.entry + d) l.rows.items;
}
