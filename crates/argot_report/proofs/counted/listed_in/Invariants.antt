use Rattle.std.proofs.Common.{◌≡◌, ℕ, take, length}
use Rattle.argot_report.specs.Counted.{AreListed}
use Rattle.argot_report.proofs.counted.listed_in.Given as goal

abbrev pub invariant-loop-h : goal.invariant-loop-h
invariant-loop-h l = AreListed l.functions (take l.h-index l.list) l.marks.items
