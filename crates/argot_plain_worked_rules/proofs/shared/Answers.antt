use Rattle.argot_plain_worked_rules.proofs.EdgesHeld.{shared_go}
use Rattle.argot_plain_worked_rules.proofs.Well.{shared_is_well}
use Rattle.argot_plain_worked_rules.proofs.EdgesNone.{shared_none}
use Rattle.argot_plain_worked_rules.proofs.SharedRun.{it_runs}
use Rattle.argot_plain_worked_rules.proofs.FlowsHeld.{shared_flows}
use Rattle.argot_plain_worked_rules.proofs.shared.Goals as goal

pub returns-clause-well_formed : goal.returns-clause-well_formed
returns-clause-well_formed c = shared_is_well

pub returns-clause-edge : goal.returns-clause-edge
returns-clause-edge c = shared_go

pub returns-clause-none : goal.returns-clause-none
returns-clause-none c = shared_none

pub returns-clause-touched : goal.returns-clause-touched
returns-clause-touched c = it_runs.0

pub returns-clause-leaks : goal.returns-clause-leaks
returns-clause-leaks c = it_runs.1

pub returns-clause-escape : goal.returns-clause-escape
returns-clause-escape c = it_runs.2

pub returns-clause-flow : goal.returns-clause-flow
returns-clause-flow c = shared_flows
