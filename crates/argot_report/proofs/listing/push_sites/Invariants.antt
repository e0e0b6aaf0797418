use Rattle.std.proofs.Common.{◌≡◌, ◌++◌, take}
use Rattle.std.specs.List.{flat_map}
use Rattle.argot_report.specs.Counted.{told}
use Rattle.argot_report.specs.Report.{site_line}
use Rattle.argot_report.proofs.listing.push_sites.Given as goal

abbrev pub invariant-loop-site : goal.invariant-loop-site
invariant-loop-site l = l.out ≡ l.initial.out ++ flat_map (site_line (told l.subject)) (take l.site-index l.site-items)
