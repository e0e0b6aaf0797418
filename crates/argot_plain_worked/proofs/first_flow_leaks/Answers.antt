use Rattle.argot_plain_worked.proofs.Leaking.{it_leaks}
use Rattle.argot_plain_worked.proofs.first_flow_leaks.Goals as goal

pub returns : goal.returns
returns c = it_leaks
