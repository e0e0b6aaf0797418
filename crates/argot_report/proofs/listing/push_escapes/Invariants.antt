use Rattle.std.proofs.Common.{◌≡◌, ◌++◌, take}
use Rattle.std.specs.List.{flat_map}
use Rattle.argot_report.specs.Counted.{told}
use Rattle.argot_report.specs.Report.{escape_line}
use Rattle.argot_report.proofs.listing.push_escapes.Given as goal

abbrev pub invariant-loop-escape : goal.invariant-loop-escape
invariant-loop-escape l = l.out ≡ l.initial.out ++ flat_map (escape_line (told l.subject)) (take l.escape-index l.escape-items)
