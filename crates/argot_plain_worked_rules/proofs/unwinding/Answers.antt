use Rattle.argot_plain_worked_rules.proofs.EdgesNone.{unwinding_none, unwinding_not_entered}
use Rattle.argot_plain_worked_rules.proofs.UnwindingRun.{it_may_end_early, it_runs}
use Rattle.argot_plain_worked_rules.proofs.Well.{unwinding_is_well}
use Rattle.argot_plain_worked_rules.proofs.FlowsHeld.{unwinding_flows}
use Rattle.argot_plain_worked_rules.proofs.FlowsNone.{unwinding_flows_not}
use Rattle.argot_plain_worked_rules.proofs.unwinding.Goals as goal

pub returns-clause-well_formed : goal.returns-clause-well_formed
returns-clause-well_formed c = unwinding_is_well

pub returns-clause-leaks : goal.returns-clause-leaks
returns-clause-leaks c = it_runs.0

pub returns-clause-ends : goal.returns-clause-ends
returns-clause-ends c = it_runs.1

pub returns-clause-early : goal.returns-clause-early
returns-clause-early c = it_may_end_early

pub returns-clause-none : goal.returns-clause-none
returns-clause-none c = unwinding_none

pub returns-clause-not_entered : goal.returns-clause-not_entered
returns-clause-not_entered c = unwinding_not_entered

pub returns-clause-flow : goal.returns-clause-flow
returns-clause-flow c = unwinding_flows

pub returns-clause-no_flow : goal.returns-clause-no_flow
returns-clause-no_flow c = unwinding_flows_not
