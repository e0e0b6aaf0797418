use Rattle.std.proofs.Common.{◌≡◌, map, take}
use Rattle.argot_first.specs.Report.{position}
use Rattle.argot_first.proofs.report.positions.Given as goal

abbrev pub invariant-loop-step : goal.invariant-loop-step
invariant-loop-step l = l.positions.items ≡ map (position l.bytes) (take l.step-index l.steps)
