use Rattle.argot_plain_worked_rules.proofs.VariablesRun.{it_comes_clean, it_would}
use Rattle.argot_plain_worked_rules.proofs.Well.{variables_is_well, written_first_is_well}
use Rattle.argot_plain_worked_rules.proofs.EdgesNone.{variables_none}
use Rattle.argot_plain_worked_rules.proofs.FlowsHeld.{written_first_flows}
use Rattle.argot_plain_worked_rules.proofs.EdgesHeld.{variables_object}
use Rattle.argot_plain_worked_rules.proofs.variables.Goals as goal

pub returns-clause-well_formed : goal.returns-clause-well_formed
returns-clause-well_formed c = variables_is_well

pub returns-clause-clean : goal.returns-clause-clean
returns-clause-clean c = it_comes_clean

pub returns-clause-none : goal.returns-clause-none
returns-clause-none c = variables_none

pub returns-clause-written : goal.returns-clause-written
returns-clause-written c = written_first_is_well

pub returns-clause-would_leak : goal.returns-clause-would_leak
returns-clause-would_leak c = it_would

pub returns-clause-flow : goal.returns-clause-flow
returns-clause-flow c = written_first_flows

pub returns-clause-edge : goal.returns-clause-edge
returns-clause-edge c = variables_object
