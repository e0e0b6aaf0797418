use Rattle.argot_plain_worked.proofs.FilledBoxRun.{it_runs}
use Rattle.argot_plain_worked.proofs.Related.{filled_box_is_well, filled_box_flows, filled_box_none}
use Rattle.argot_plain_worked.proofs.filled_box.Goals as goal

pub returns-clause-well_formed : goal.returns-clause-well_formed
returns-clause-well_formed c = filled_box_is_well

pub returns-clause-leaks : goal.returns-clause-leaks
returns-clause-leaks c = it_runs

pub returns-clause-flow : goal.returns-clause-flow
returns-clause-flow c = filled_box_flows

pub returns-clause-none : goal.returns-clause-none
returns-clause-none c = filled_box_none
