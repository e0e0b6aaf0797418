use Rattle.std.proofs.Common.{◌≡◌, ℕ, ◌<◌, IsTrue, false, Some}
use Rattle.std.specs.Prelude.{slice_get}
use Rattle.argot_facts.specs.Numbers.{node}
use Rattle.argot_points.specs.Advancing.{Advances}
use Rattle.argot_points.specs.Meaning.{IsRow}
use Rattle.argot_points.specs.Solved.{IsSound, IsPart, room_of}
use Rattle.argot_points.proofs.leaves.enter_leaves.Given as goal

abbrev pub invariant-loop-leaf : goal.invariant-loop-leaf
invariant-loop-leaf l = record {
  sound : IsSound l.system l.tables;
  advances : Advances l.system l.fn.tables l.tables;
  closed : l.changed ≡ false → (b : ℕ) → b < l.leaf → slice_get l.leaves b ≡ Some l.path → (m n : ℕ) → IsRow l.system m (node l.place l.index b) → IsRow l.system n l.other → IsPart l.tables.refers n m;
  same : l.changed ≡ false → l.tables ≡ l.fn.tables;
  room : IsTrue l.changed → room_of l.tables < room_of l.fn.tables;
}
