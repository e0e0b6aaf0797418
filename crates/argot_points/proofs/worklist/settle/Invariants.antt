use Rattle.argot_points.specs.Settled.{AllSettled}
use Rattle.argot_points.specs.Solved.{IsSound, room_of}
use Rattle.argot_points.proofs.worklist.settle.Given as goal

abbrev pub invariant-loop : goal.invariant-loop
invariant-loop l = record {
  sound : IsSound l.system l.tables;
  settled : AllSettled l.system l.tables;
}

abbrev pub decreases-loop : goal.decreases-loop
decreases-loop l = room_of l.tables
