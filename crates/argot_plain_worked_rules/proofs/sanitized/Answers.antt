use Rattle.argot_plain_worked_rules.proofs.EdgesNone.{sanitized_none}
use Rattle.argot_plain_worked_rules.proofs.SanitizedRun.{it_runs, it_would}
use Rattle.argot_plain_worked_rules.proofs.Well.{sanitized_is_well}
use Rattle.argot_plain_worked_rules.proofs.FlowsHeld.{sanitized_flows, sanitized_would_flows}
use Rattle.argot_plain_worked_rules.proofs.FlowsNone.{sanitized_flows_not}
use Rattle.argot_plain_worked_rules.proofs.sanitized.Goals as goal

pub returns-clause-well_formed : goal.returns-clause-well_formed
returns-clause-well_formed c = sanitized_is_well

pub returns-clause-clean : goal.returns-clause-clean
returns-clause-clean c = it_runs.0

pub returns-clause-leaks : goal.returns-clause-leaks
returns-clause-leaks c = it_runs.1

pub returns-clause-would_leak : goal.returns-clause-would_leak
returns-clause-would_leak c = it_would

pub returns-clause-none : goal.returns-clause-none
returns-clause-none c = sanitized_none

pub returns-clause-flow : goal.returns-clause-flow
returns-clause-flow c = sanitized_flows

pub returns-clause-no_flow : goal.returns-clause-no_flow
returns-clause-no_flow c = sanitized_flows_not

pub returns-clause-would_flow : goal.returns-clause-would_flow
returns-clause-would_flow c = sanitized_would_flows
