use Rattle.argot_points.specs.Solved.{IsSound, room_of}
use Rattle.argot_points.proofs.passes.saturate.Given as goal

abbrev pub invariant-loop-tables : goal.invariant-loop-tables
invariant-loop-tables l = IsSound l.system l.tables

abbrev pub decreases-loop-tables : goal.decreases-loop-tables
decreases-loop-tables l = room_of l.tables
