use Rattle.argot_plain_worked.proofs.FirstFlowRead.{has-the-form, is-drawn}
use Rattle.argot_plain_worked.proofs.first_flow_is_read.Goals as goal

pub returns-clause-form : goal.returns-clause-form
returns-clause-form c = has-the-form

pub returns-clause-drawn : goal.returns-clause-drawn
returns-clause-drawn c = is-drawn
