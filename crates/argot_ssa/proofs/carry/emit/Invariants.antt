use Rattle.std.proofs.Common.{◌≡◌, ℕ, ◌+◌, ◌⊎◌, [], ◌++◌, true, slice_index, slice_index_or}
use Rattle.argot_links.specs.Members.{has}
use Rattle.argot_plain.specs.Lists.{In}
use Rattle.argot_ssa.specs.Edges.{leads, holds}
use Rattle.argot_ssa.specs.Paths.{Row}
use Rattle.argot_ssa.proofs.carry.emit.Given as goal

abbrev pub invariant-loop-k : goal.invariant-loop-k
invariant-loop-k l = record {
  rest : l.yielded ++ l.k-iterator ≡ slice_index_or l.asks.lists l.r [];
  kept : (x : Row) → In x l.fn.rows.items → In x l.rows.items;
  only : (x : Row) → In x l.rows.items → In x l.fn.rows.items ⊎ ((k : ℕ) × (leads l.asks.lists l.r k ≡ true) × (holds l.seen (slice_index l.heads k) ≡ true) × (x ≡ (l.entry + k, l.r, l.entry + l.d)));
  there : (k : ℕ) → has l.yielded k ≡ true → holds l.seen (slice_index l.heads k) ≡ true → In (l.entry + k, l.r, l.entry + l.d) l.rows.items;
}
