use Rattle.std.proofs.Common.{◌≡◌, length}
use Rattle.argot_ssa.specs.Paths.{AllLatest, AreAsks, AddsRows, IsLocalUpTo}
use Rattle.argot_ssa.proofs.asks.visit_all.Given as goal

abbrev pub invariant-loop-k : goal.invariant-loop-k
invariant-loop-k l = record {
  count : length l.latest ≡ length l.fn.latest;
  heads : length l.asks.lists ≡ length l.fn.latest;
  latest : AllLatest l.program l.function l.k l.latest;
  asks : AreAsks l.program l.function l.heads l.k l.asks.lists;
  rows : AddsRows l.fn.rows.items l.rows.items (IsLocalUpTo l.program l.function l.heads l.k);
}
