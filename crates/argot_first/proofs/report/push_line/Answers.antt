use Rattle.argot_first.proofs.Lines.{joined}
use Rattle.argot_first.proofs.report.push_line.Goals as goal

pub returns : goal.returns
returns c = let j = joined c.args.positions.now c.args.base c.args.flow.now c.args.out.now in cc (c.in_ok-push_end.ensures, c.in_ok-push_end-2.ensures, c.in_ok-push_argument.ensures, j)
