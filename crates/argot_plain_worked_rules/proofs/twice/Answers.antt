use Rattle.argot_plain_worked_rules.proofs.TwiceRun.{it_runs}
use Rattle.argot_plain_worked_rules.proofs.Well.{twice_is_well}
use Rattle.argot_plain_worked_rules.proofs.FlowsHeld.{twice_flows}
use Rattle.argot_plain_worked_rules.proofs.FlowsNone.{twice_flows_not}
use Rattle.argot_plain_worked_rules.proofs.twice.Goals as goal

pub returns-clause-well_formed : goal.returns-clause-well_formed
returns-clause-well_formed c = twice_is_well

pub returns-clause-leaks : goal.returns-clause-leaks
returns-clause-leaks c = it_runs.0

pub returns-clause-clean : goal.returns-clause-clean
returns-clause-clean c = it_runs.1

pub returns-clause-flow : goal.returns-clause-flow
returns-clause-flow c = twice_flows

pub returns-clause-no_flow : goal.returns-clause-no_flow
returns-clause-no_flow c = twice_flows_not
