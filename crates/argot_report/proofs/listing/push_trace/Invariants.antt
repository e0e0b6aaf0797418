use Rattle.std.proofs.Common.{◌≡◌, ◌++◌, take}
use Rattle.std.specs.List.{flat_map}
use Rattle.argot_report.specs.Counted.{told}
use Rattle.argot_report.specs.Report.{hop_line}
use Rattle.argot_report.proofs.listing.push_trace.Given as goal

abbrev pub invariant-loop-hop : goal.invariant-loop-hop
invariant-loop-hop l = l.out ≡ l.initial.out ++ flat_map (hop_line (told l.subject)) (take l.hop-index l.hop-items)
