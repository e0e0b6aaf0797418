use Rattle.std.proofs.Common.{◌≡◌, ◌-◌, ◌<◌, ◌≤◌, slice_index}
use Rattle.argot_ssa.specs.Edges.{holds}
use Rattle.argot_ssa.specs.Places.{AreHeads}
use Rattle.argot_ssa.proofs.cut.heads_of.Given as goal

abbrev pub invariant-loop-k : goal.invariant-loop-k
invariant-loop-k l = record {
  heads : AreHeads (holds l.begins) l.k l.heads.items;
  head : 0 < l.k → l.head ≡ slice_index l.heads.items (l.k - 1);
  below : l.head ≤ l.k;
}
