use Rattle.argot_plain_worked_rules.proofs.EdgesHeld.{externals_flow}
use Rattle.argot_plain_worked_rules.proofs.ExternalsRun.{it_runs}
use Rattle.argot_plain_worked_rules.proofs.Well.{externals_is_well}
use Rattle.argot_plain_worked_rules.proofs.EdgesNone.{externals_none}
use Rattle.argot_plain_worked_rules.proofs.FlowsHeld.{externals_flows}
use Rattle.argot_plain_worked_rules.proofs.FlowsNone.{externals_flows_not}
use Rattle.argot_plain_worked_rules.proofs.externals.Goals as goal

pub returns-clause-well_formed : goal.returns-clause-well_formed
returns-clause-well_formed c = externals_is_well

pub returns-clause-leaks : goal.returns-clause-leaks
returns-clause-leaks c = it_runs.0

pub returns-clause-clean : goal.returns-clause-clean
returns-clause-clean c = it_runs.1

pub returns-clause-ends : goal.returns-clause-ends
returns-clause-ends c = it_runs.2

pub returns-clause-edge : goal.returns-clause-edge
returns-clause-edge c = externals_flow

pub returns-clause-none : goal.returns-clause-none
returns-clause-none c = externals_none

pub returns-clause-flow : goal.returns-clause-flow
returns-clause-flow c = externals_flows

pub returns-clause-no_flow : goal.returns-clause-no_flow
returns-clause-no_flow c = externals_flows_not
