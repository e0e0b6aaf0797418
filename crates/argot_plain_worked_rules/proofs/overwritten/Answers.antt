use Rattle.argot_plain_worked_rules.proofs.EdgesHeld.{overwritten_object}
use Rattle.argot_plain_worked_rules.proofs.EdgesNone.{overwritten_none}
use Rattle.argot_plain_worked_rules.proofs.OverwrittenRun.{it_runs, it_would}
use Rattle.argot_plain_worked_rules.proofs.Well.{overwritten_is_well, kept_program_is_well}
use Rattle.argot_plain_worked_rules.proofs.FlowsHeld.{kept_program_flows}
use Rattle.argot_plain_worked_rules.proofs.FlowsNone.{overwritten_flows_not}
use Rattle.argot_plain_worked_rules.proofs.overwritten.Goals as goal

pub returns-clause-well_formed : goal.returns-clause-well_formed
returns-clause-well_formed c = overwritten_is_well

pub returns-clause-clean : goal.returns-clause-clean
returns-clause-clean c = it_runs.0

pub returns-clause-replaced : goal.returns-clause-replaced
returns-clause-replaced c = it_runs.1

pub returns-clause-edge : goal.returns-clause-edge
returns-clause-edge c = overwritten_object

pub returns-clause-none : goal.returns-clause-none
returns-clause-none c = overwritten_none

pub returns-clause-no_flow : goal.returns-clause-no_flow
returns-clause-no_flow c = overwritten_flows_not

pub returns-clause-kept : goal.returns-clause-kept
returns-clause-kept c = kept_program_is_well

pub returns-clause-would_leak : goal.returns-clause-would_leak
returns-clause-would_leak c = it_would.0

pub returns-clause-would_leak_again : goal.returns-clause-would_leak_again
returns-clause-would_leak_again c = it_would.1

pub returns-clause-would_flow : goal.returns-clause-would_flow
returns-clause-would_flow c = kept_program_flows
