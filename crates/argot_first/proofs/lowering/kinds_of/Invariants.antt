use Rattle.std.proofs.Common.{◌≡◌, ◌++◌, drop}
use Rattle.argot_first.specs.Marks.{kinds_from}
use Rattle.argot_first.proofs.lowering.kinds_of.Given as goal

abbrev pub invariant-loop-i : goal.invariant-loop-i
invariant-loop-i l = l.kinds.items ++ kinds_from l.tables.scope.functions.now l.tables.steps.now l.i (drop l.i l.tables.steps.now) ≡ kinds_from l.tables.scope.functions.now l.tables.steps.now 0 l.tables.steps.now
