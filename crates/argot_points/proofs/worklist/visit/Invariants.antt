use Rattle.std.proofs.Common.{◌≡◌, ℕ, ◌<◌, ◌++◌, [], IsTrue, true, false, Some}
use Rattle.std.specs.Prelude.{slice_get, slice_index_or}
use Rattle.argot_links.specs.Members.{has as contains}
use Rattle.argot_points_rules.specs.declared.rules.Owned.{Owned}
use Rattle.argot_points.specs.Settled.{AllSettledBut}
use Rattle.argot_points.specs.Solved.{IsSound, IsDone, room_of}
use Rattle.argot_points.proofs.worklist.visit.Given as goal

abbrev pub invariant-loop-k : goal.invariant-loop-k
invariant-loop-k l = record {
  rest : l.yielded ++ l.k-iterator ≡ slice_index_or l.uses.lists l.key [];
  sound : IsSound l.system l.tables;
  settled : AllSettledBut l.system l.tables l.key;
  done : l.changed ≡ false → (j : ℕ) (o : Owned) → contains l.yielded j ≡ true → slice_get l.system.rules.items j ≡ Some o → IsDone l.system l.tables o;
  same : l.changed ≡ false → l.tables ≡ l.fn.tables;
  room : IsTrue l.changed → room_of l.tables < room_of l.fn.tables;
}
