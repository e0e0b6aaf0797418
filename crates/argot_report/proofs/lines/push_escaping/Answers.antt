use Rattle.std.proofs.Common.{◌≡◌, arith}
use Rattle.std.proofs.lemmas.Grind.{common_steps}
use Rattle.argot_report.specs.Report.{site_line}
use Rattle.argot_report.proofs.lines.push_escaping.Goals as goal

pub returns : goal.returns
unfolding site_line
returns c = grind (arith, common_steps)
