use Rattle.std.proofs.Common.{◌≡◌, ℕ, ◌+◌, ◌*◌, ◌≤◌, ◌⊎◌, [], ◌++◌, length, true, slice_index_or}
use Rattle.argot_links.specs.Members.{has}
use Rattle.argot_links.specs.Table.{room}
use Rattle.argot_ssa.specs.Edges.{leads, IsSet, holds}
use Rattle.argot_ssa.proofs.flood.expand.Given as goal

abbrev pub invariant-loop-b : goal.invariant-loop-b
invariant-loop-b l = record {
  rest : l.yielded ++ l.b-iterator ≡ slice_index_or l.edges.lists l.from [];
  cols : l.marks.cols ≡ l.fn.marks.cols;
  marks : IsSet l.marks.cols l.marks;
  queue : l.queue.size ≡ l.marks.cols;
  there : (b : ℕ) → has l.yielded b ≡ true → holds l.filter b ≡ true → holds l.marks b ≡ true;
  kept : (a : ℕ) → holds l.fn.marks a ≡ true → holds l.marks a ≡ true;
  only : (a : ℕ) → holds l.marks a ≡ true → (holds l.fn.marks a ≡ true) ⊎ (leads l.edges.lists l.from a ≡ true);
  waiting : (a : ℕ) → has l.fn.queue.items a ≡ true → has l.queue.items a ≡ true;
  fresh : (a : ℕ) → holds l.marks a ≡ true → (holds l.fn.marks a ≡ true) ⊎ (has l.queue.items a ≡ true);
  marked : (a : ℕ) → has l.queue.items a ≡ true → (has l.fn.queue.items a ≡ true) ⊎ (holds l.marks a ≡ true);
  work : 2 * room l.marks + length l.queue.items ≤ 2 * room l.fn.marks + length l.fn.queue.items;
}
