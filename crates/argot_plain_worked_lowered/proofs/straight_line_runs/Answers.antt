use Rattle.argot_plain_worked_lowered.proofs.StraightLineRun.{it_ends, it_flows, it_leaks}
use Rattle.argot_plain_worked_lowered.proofs.Well.{straight_line_is_well}
use Rattle.argot_plain_worked_lowered.proofs.straight_line_runs.Goals as goal

pub returns-clause-well_formed : goal.returns-clause-well_formed
returns-clause-well_formed c = straight_line_is_well

pub returns-clause-leaks : goal.returns-clause-leaks
returns-clause-leaks c = it_leaks

pub returns-clause-ends : goal.returns-clause-ends
returns-clause-ends c = it_ends

pub returns-clause-flow : goal.returns-clause-flow
returns-clause-flow c = it_flows
