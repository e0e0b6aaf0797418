use Rattle.std.proofs.Common.{◌≡◌, ℕ, ◌+◌, ◌*◌, length, true, false}
use Rattle.argot_links.specs.Members.{has}
use Rattle.argot_links.specs.Table.{room}
use Rattle.argot_ssa.specs.Edges.{leads, IsSet, holds, Spreads}
use Rattle.argot_ssa.proofs.flood.flood.Given as goal

abbrev pub invariant-loop-a : goal.invariant-loop-a
invariant-loop-a l = record {
  cols : l.marks.cols ≡ l.fn.marks.cols;
  marks : IsSet l.marks.cols l.marks;
  queue : l.queue.size ≡ l.marks.cols;
  kept : (a : ℕ) → holds l.fn.marks a ≡ true → holds l.marks a ≡ true;
  marked : (a : ℕ) → has l.queue.items a ≡ true → holds l.marks a ≡ true;
  closed : (a b : ℕ) → holds l.marks a ≡ true → has l.queue.items a ≡ false → holds l.stops a ≡ false → leads l.edges.lists a b ≡ true → holds l.filter b ≡ true → holds l.marks b ≡ true;
  sound : (a : ℕ) → holds l.marks a ≡ true → Spreads l.edges.lists (holds l.stops) (holds l.fn.marks) a;
}

-- a mark leaves less room, and what is taken no longer waits
abbrev pub decreases-loop-a : goal.decreases-loop-a
decreases-loop-a l = 2 * room l.marks + length l.queue.items
