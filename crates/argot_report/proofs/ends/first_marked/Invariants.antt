use Rattle.std.proofs.Common.{◌≡◌, drop}
use Rattle.std.specs.List.{find}
use Rattle.argot_report.specs.Counted.{is_set}
use Rattle.argot_report.proofs.ends.first_marked.Given as goal

abbrev pub invariant-loop-h : goal.invariant-loop-h
invariant-loop-h l = find (is_set l.marks) l.targets ≡ find (is_set l.marks) (drop l.h-index l.targets)
