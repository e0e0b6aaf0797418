use Rattle.argot_plain_worked.proofs.ReadFirstRun.{it_runs}
use Rattle.argot_plain_worked.proofs.Related.{read_first_is_well, read_first_edge, read_first_none, read_first_back, shared_first_is_well, shared_first_edge}
use Rattle.argot_plain_worked.proofs.read_first.Goals as goal

pub returns-clause-well_formed : goal.returns-clause-well_formed
returns-clause-well_formed c = read_first_is_well

pub returns-clause-ends : goal.returns-clause-ends
returns-clause-ends c = it_runs

pub returns-clause-edge : goal.returns-clause-edge
returns-clause-edge c = read_first_edge

pub returns-clause-no_flow : goal.returns-clause-no_flow
returns-clause-no_flow c = read_first_none

pub returns-clause-none : goal.returns-clause-none
returns-clause-none c = read_first_back

pub returns-clause-well_shared : goal.returns-clause-well_shared
returns-clause-well_shared c = shared_first_is_well

pub returns-clause-shared : goal.returns-clause-shared
returns-clause-shared c = shared_first_edge
