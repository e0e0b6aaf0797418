use Rattle.std.proofs.Common.{◌≡◌, ℕ, ◌⊎◌, [], ◌++◌, true, slice_index, slice_index_or}
use Rattle.argot_links.specs.Members.{has}
use Rattle.argot_ssa.specs.Edges.{leads, IsSet, holds}
use Rattle.argot_ssa.proofs.work.mark_blocks.Given as goal

abbrev pub invariant-loop-k : goal.invariant-loop-k
invariant-loop-k l = record {
  rest : l.yielded ++ l.k-iterator ≡ slice_index_or l.places.lists l.r [];
  cols : l.set.cols ≡ l.fn.set.cols;
  set : IsSet l.set.cols l.set;
  kept : (a : ℕ) → holds l.fn.set a ≡ true → holds l.set a ≡ true;
  there : (k : ℕ) → has l.yielded k ≡ true → holds l.set (slice_index l.heads k) ≡ true;
  only : (a : ℕ) → holds l.set a ≡ true → (holds l.fn.set a ≡ true) ⊎ ((k : ℕ) × (leads l.places.lists l.r k ≡ true) × (slice_index l.heads k ≡ a));
}
