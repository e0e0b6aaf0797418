use Rattle.std.proofs.Common.{take}
use Rattle.argot_report.specs.Counted.{AreNamings}
use Rattle.argot_report.proofs.naming.namings_of.Given as goal

abbrev pub invariant-loop-problem : goal.invariant-loop-problem
invariant-loop-problem l = AreNamings l.program (take l.problem-index l.problems) l.namings.items
