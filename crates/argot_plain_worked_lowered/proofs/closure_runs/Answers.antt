use Rattle.argot_plain_worked_lowered.proofs.ClosureRun.{it_assigns, it_ends}
use Rattle.argot_plain_worked_lowered.proofs.Well.{closure_is_well}
use Rattle.argot_plain_worked_lowered.proofs.closure_runs.Goals as goal

pub returns-clause-well_formed : goal.returns-clause-well_formed
returns-clause-well_formed c = closure_is_well

pub returns-clause-assigns : goal.returns-clause-assigns
returns-clause-assigns c = it_assigns

pub returns-clause-ends : goal.returns-clause-ends
returns-clause-ends c = it_ends
