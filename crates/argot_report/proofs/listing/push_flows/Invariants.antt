use Rattle.std.proofs.Common.{◌≡◌, ◌++◌, take}
use Rattle.std.specs.List.{flat_map}
use Rattle.argot_report.specs.Counted.{told}
use Rattle.argot_report.specs.Report.{flow_lines}
use Rattle.argot_report.proofs.listing.push_flows.Given as goal

abbrev pub invariant-loop-flow : goal.invariant-loop-flow
invariant-loop-flow l = l.out ≡ l.initial.out ++ flat_map (flow_lines (told l.subject)) (take l.flow-index l.flow-items)
