use Rattle.argot_typed.proofs.Ending.{never_back}
use Rattle.argot_typed.proofs.laws.walks_that_end_never_lead_back.Goals as goal

pub returns : goal.returns
returns c = never_back
