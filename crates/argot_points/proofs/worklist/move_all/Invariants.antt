use Rattle.std.proofs.Common.{◌≡◌, ℕ, ◌<◌, IsTrue, true, false, Some}
use Rattle.std.specs.Prelude.{slice_get}
use Rattle.argot_points_rules.specs.declared.rules.Owned.{Owned}
use Rattle.argot_points.specs.Settled.{is_moving, AllSettled}
use Rattle.argot_points.specs.Solved.{IsSound, IsDone, room_of}
use Rattle.argot_points.proofs.worklist.move_all.Given as goal

abbrev pub invariant-loop-k : goal.invariant-loop-k
invariant-loop-k l = record {
  sound : IsSound l.system l.tables;
  settled : AllSettled l.system l.tables;
  closed : l.changed ≡ false → (j : ℕ) (o : Owned) → j < l.k → slice_get l.system.rules.items j ≡ Some o → is_moving o.rule ≡ true → IsDone l.system l.tables o;
  same : l.changed ≡ false → l.tables ≡ l.fn.tables;
  room : IsTrue l.changed → room_of l.tables < room_of l.fn.tables;
}
