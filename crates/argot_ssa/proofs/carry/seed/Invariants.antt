use Rattle.std.proofs.Common.{◌≡◌, ℕ, [], ◌++◌, true, slice_index, slice_index_or}
use Rattle.argot_links.specs.Members.{has}
use Rattle.argot_ssa.specs.Edges.{leads, IsSet, holds}
use Rattle.argot_ssa.proofs.carry.seed.Given as goal

abbrev pub invariant-loop-k : goal.invariant-loop-k
invariant-loop-k l = record {
  rest : l.yielded ++ l.k-iterator ≡ slice_index_or l.asks.lists l.r [];
  cols : l.needed.cols ≡ l.fn.needed.cols;
  needed : IsSet l.needed.cols l.needed;
  queue : l.queue.size ≡ l.needed.cols;
  waits : (a : ℕ) → holds l.needed a ≡ true → has l.queue.items a ≡ true;
  marked : (a : ℕ) → has l.queue.items a ≡ true → holds l.needed a ≡ true;
  there : (k b : ℕ) → has l.yielded k ≡ true → leads l.back.lists (slice_index l.heads k) b ≡ true → holds l.all b ≡ true → holds l.needed b ≡ true;
}
