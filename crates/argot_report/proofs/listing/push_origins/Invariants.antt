use Rattle.std.proofs.Common.{◌≡◌, ◌++◌, take}
use Rattle.std.specs.List.{flat_map}
use Rattle.argot_report.specs.Counted.{told}
use Rattle.argot_report.specs.Report.{origin_lines}
use Rattle.argot_report.proofs.listing.push_origins.Given as goal

abbrev pub invariant-loop-origin : goal.invariant-loop-origin
invariant-loop-origin l = l.out ≡ l.initial.out ++ flat_map (origin_lines (told l.subject)) (take l.origin-index l.origin-items)
