use Rattle.std.proofs.Common.{◌≡◌, ℕ, ◌<◌, ◌≤◌, IsTrue, false, Some, length}
use Rattle.std.specs.Prelude.{slice_get}
use Rattle.argot_points_rules.specs.declared.rules.Owned.{Owned}
use Rattle.argot_points.specs.Advancing.{Advances}
use Rattle.argot_points.specs.Solved.{IsSound, IsDone, room_of}
use Rattle.argot_points.proofs.passes.pass_back.Given as goal

-- while nothing changed, the rules from there on are done in the tables as they were
abbrev pub invariant-loop-k : goal.invariant-loop-k
invariant-loop-k l = record {
  inside : l.k ≤ length l.system.rules.items;
  sound : IsSound l.system l.tables;
  advances : Advances l.system l.fn.tables l.tables;
  same : l.changed ≡ false → l.tables ≡ l.fn.tables;
  done : l.changed ≡ false → (j : ℕ) (o : Owned) → l.k ≤ j → slice_get l.system.rules.items j ≡ Some o → IsDone l.system l.tables o;
  room : IsTrue l.changed → room_of l.tables < room_of l.fn.tables;
}

abbrev pub decreases-loop-k : goal.decreases-loop-k
decreases-loop-k l = l.k
