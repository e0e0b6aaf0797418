use Rattle.std.proofs.Common.{◌≡◌, length}
use Rattle.argot_points.specs.Reading.{AreListed, start_of}
use Rattle.argot_points.proofs.aiming.targets_of.Given as goal

abbrev pub invariant-loop-h : goal.invariant-loop-h
invariant-loop-h l = record {
  rows : length l.marks.rows ≡ 1;
  cols : l.marks.cols ≡ length l.system.program.now.functions;
  listed : AreListed l.system l.tables (start_of l.system.program.now l.h) l.found.items;
}
