use Rattle.argot_plain_worked_rules.proofs.EdgesHeld.{handed_argument}
use Rattle.argot_plain_worked_rules.proofs.EdgesNone.{handed_none}
use Rattle.argot_plain_worked_rules.proofs.HandedRun.{it_leaks}
use Rattle.argot_plain_worked_rules.proofs.Well.{handed_is_well}
use Rattle.argot_plain_worked_rules.proofs.FlowsHeld.{handed_flows}
use Rattle.argot_plain_worked_rules.proofs.FlowsNone.{handed_flows_not}
use Rattle.argot_plain_worked_rules.proofs.handed.Goals as goal

pub returns-clause-well_formed : goal.returns-clause-well_formed
returns-clause-well_formed c = handed_is_well

pub returns-clause-leaks : goal.returns-clause-leaks
returns-clause-leaks c = it_leaks

pub returns-clause-edge : goal.returns-clause-edge
returns-clause-edge c = handed_argument

pub returns-clause-none : goal.returns-clause-none
returns-clause-none c = handed_none

pub returns-clause-flow : goal.returns-clause-flow
returns-clause-flow c = handed_flows

pub returns-clause-no_flow : goal.returns-clause-no_flow
returns-clause-no_flow c = handed_flows_not
