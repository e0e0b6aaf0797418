use Rattle.argot_plain_worked_rules.proofs.EdgesHeld.{slices_grown}
use Rattle.argot_plain_worked_rules.proofs.EdgesNone.{slices_none, slices_apart}
use Rattle.argot_plain_worked_rules.proofs.SlicesRun.{it_leaks}
use Rattle.argot_plain_worked_rules.proofs.Well.{slices_is_well}
use Rattle.argot_plain_worked_rules.proofs.FlowsHeld.{slices_flows}
use Rattle.argot_plain_worked_rules.proofs.FlowsNone.{slices_flows_not}
use Rattle.argot_plain_worked_rules.proofs.slices.Goals as goal

pub returns-clause-well_formed : goal.returns-clause-well_formed
returns-clause-well_formed c = slices_is_well

pub returns-clause-leaks : goal.returns-clause-leaks
returns-clause-leaks c = it_leaks

pub returns-clause-edge : goal.returns-clause-edge
returns-clause-edge c = slices_grown

pub returns-clause-none : goal.returns-clause-none
returns-clause-none c = slices_none

pub returns-clause-apart : goal.returns-clause-apart
returns-clause-apart c = slices_apart

pub returns-clause-flow : goal.returns-clause-flow
returns-clause-flow c = slices_flows

pub returns-clause-no_flow : goal.returns-clause-no_flow
returns-clause-no_flow c = slices_flows_not
