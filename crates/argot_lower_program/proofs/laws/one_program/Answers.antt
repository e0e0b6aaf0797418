use Rattle.argot_lower_program.proofs.Program.{one_program}
use Rattle.argot_lower_program.proofs.laws.one_program.Goals as goal

pub returns : goal.returns
returns c = one_program
