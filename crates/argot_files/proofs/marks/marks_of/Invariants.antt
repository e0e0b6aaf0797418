use Rattle.argot_files.specs.Marks.{AreMarksUpTo}
use Rattle.argot_files.proofs.marks.marks_of.Given as goal

abbrev pub invariant-loop-c : goal.invariant-loop-c
invariant-loop-c l = AreMarksUpTo l.nodes l.wanted l.c l.marks.items
