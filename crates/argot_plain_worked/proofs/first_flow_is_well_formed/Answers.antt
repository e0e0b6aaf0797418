use Rattle.argot_plain_worked.proofs.FirstWell.{well_formed}
use Rattle.argot_plain_worked.proofs.first_flow_is_well_formed.Goals as goal

pub returns : goal.returns
returns c = well_formed
