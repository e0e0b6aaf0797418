use Rattle.argot_plain_worked_lowered.proofs.CalledMethodRun.{it_ends, it_gives}
use Rattle.argot_plain_worked_lowered.proofs.Well.{called_method_is_well}
use Rattle.argot_plain_worked_lowered.proofs.called_method_runs.Goals as goal

pub returns-clause-well_formed : goal.returns-clause-well_formed
returns-clause-well_formed c = called_method_is_well

pub returns-clause-gives : goal.returns-clause-gives
returns-clause-gives c = it_gives

pub returns-clause-ends : goal.returns-clause-ends
returns-clause-ends c = it_ends
