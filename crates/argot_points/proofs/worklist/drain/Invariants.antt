use Rattle.std.proofs.Common.{◌+◌, ◌*◌, ◌≤◌, length}
use Rattle.argot_points.specs.Settled.{AllSettled}
use Rattle.argot_points.specs.Solved.{IsSound, function_key, room_of}
use Rattle.argot_points.proofs.worklist.drain.Given as goal

abbrev pub invariant-loop-key : goal.invariant-loop-key
invariant-loop-key l = record {
  sound : IsSound l.system l.tables;
  settled : AllSettled l.system l.tables;
  room : room_of l.tables ≤ room_of l.fn.tables;
}

-- what is added leaves less room, and what is looked at no longer waits
abbrev pub decreases-loop-key : goal.decreases-loop-key
decreases-loop-key l = room_of l.tables * (function_key l.system (length l.system.program.now.functions) + 1) + length l.tables.grown.items
