use Rattle.std.proofs.Common.{◌≡◌, ℕ, ◌<◌, ◌⊎◌, true, length, slice_index}
use Rattle.argot_ssa.specs.Edges.{leads}
use Rattle.argot_ssa.specs.Places.{size, defines_at, IsOut}
use Rattle.argot_ssa.proofs.outs.define_all.Given as goal

abbrev pub invariant-loop-r : goal.invariant-loop-r
invariant-loop-r l = record {
  heads : length l.outs.lists ≡ length l.next;
  kept : (a b : ℕ) → leads l.fn.outs.lists a b ≡ true → leads l.outs.lists a b ≡ true;
  only : (a b : ℕ) → leads l.outs.lists a b ≡ true → (leads l.fn.outs.lists a b ≡ true) ⊎ ((b ≡ l.k) × IsOut l.heads (size l.function) (defines_at l.program l.function a) l.k);
  there : (j : ℕ) → j < l.r-index → IsOut l.heads (size l.function) (defines_at l.program l.function (slice_index l.registers j)) l.k → leads l.outs.lists (slice_index l.registers j) l.k ≡ true;
}
