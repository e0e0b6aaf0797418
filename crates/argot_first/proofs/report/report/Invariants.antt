use Rattle.std.proofs.Common.{◌≡◌, take}
use Rattle.argot_first.specs.Report.{lines}
use Rattle.argot_first.proofs.report.report.Given as goal

abbrev pub invariant-loop-flow : goal.invariant-loop-flow
invariant-loop-flow l = l.out ≡ lines l.positions l.base (take l.flow-index l.flows)
