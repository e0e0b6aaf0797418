-- How a report grows, and when it has grown too long.
use Rattle.std.specs.Prelude.{◌≡◌, ℕ, ◌<◌, ◌++◌, List, length}
use Rattle.argot_report.specs.Report.{most_bytes}
use Rattle.argot_report.specs.declared.faults.ReportFault.{ReportFault}
use Rattle.argot_report.specs.declared.faults.ReportFault.TheVariants as why

-- a text that is too long with these bytes behind it is the cause of a fault, which else is want of memory
abbrev pub TooLong : List ℕ → List ℕ → ReportFault → Type 0
TooLong old text fault = fault ≡ why.Report → most_bytes < length (old ++ text)
