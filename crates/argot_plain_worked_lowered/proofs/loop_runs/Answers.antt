use Rattle.argot_plain_worked_lowered.proofs.LoopRun.{it_ends, it_turns}
use Rattle.argot_plain_worked_lowered.proofs.Well.{loop_is_well}
use Rattle.argot_plain_worked_lowered.proofs.loop_runs.Goals as goal

pub returns-clause-well_formed : goal.returns-clause-well_formed
returns-clause-well_formed c = loop_is_well

pub returns-clause-turns : goal.returns-clause-turns
returns-clause-turns c = it_turns

pub returns-clause-ends : goal.returns-clause-ends
returns-clause-ends c = it_ends
