use Rattle.std.proofs.Common.{◌≡◌, ℕ, ◌+◌, ◌⊎◌, [], ◌++◌, true, length, slice_index, slice_index_or}
use Rattle.argot_links.specs.Members.{has}
use Rattle.argot_plain.specs.Lists.{In}
use Rattle.argot_ssa.specs.Edges.{leads, holds, Spreads}
use Rattle.argot_ssa.specs.Paths.{Row}
use Rattle.argot_ssa.specs.Working.{IsWork, IsCarried}
use Rattle.argot_ssa.proofs.carry.carry_all.Given as goal

abbrev pub invariant-loop-d : goal.invariant-loop-d
invariant-loop-d l = record {
  rest : l.yielded ++ l.d-iterator ≡ slice_index_or l.outs.lists l.r [];
  work : IsWork (length l.heads) l.work;
  stops : l.work.stops ≡ l.fn.work.stops;
  needed : l.work.needed ≡ l.fn.work.needed;
  kept : (x : Row) → In x l.fn.rows.items → In x l.rows.items;
  only : (x : Row) → In x l.rows.items → In x l.fn.rows.items ⊎ IsCarried l.net.onward.lists l.outs.lists l.asks.lists l.heads (holds l.fn.work.stops) l.entry l.r x;
  there : (d : ℕ) → has l.yielded d ≡ true → (k : ℕ) → leads l.asks.lists l.r k ≡ true → Spreads l.net.onward.lists (holds l.fn.work.stops) (leads l.net.onward.lists (slice_index l.heads d)) (slice_index l.heads k) → In (l.entry + k, l.r, l.entry + d) l.rows.items;
}
