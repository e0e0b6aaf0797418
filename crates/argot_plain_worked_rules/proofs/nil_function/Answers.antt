use Rattle.argot_plain_worked_rules.proofs.NilFunctionRun.{it_runs}
use Rattle.argot_plain_worked_rules.proofs.Well.{nil_function_is_well}
use Rattle.argot_plain_worked_rules.proofs.EdgesNone.{nil_function_none}
use Rattle.argot_plain_worked_rules.proofs.FlowsHeld.{nil_function_flows}
use Rattle.argot_plain_worked_rules.proofs.nil_function.Goals as goal

pub returns-clause-well_formed : goal.returns-clause-well_formed
returns-clause-well_formed c = nil_function_is_well

pub returns-clause-leaks : goal.returns-clause-leaks
returns-clause-leaks c = it_runs.0

pub returns-clause-ends : goal.returns-clause-ends
returns-clause-ends c = it_runs.1

pub returns-clause-flow : goal.returns-clause-flow
returns-clause-flow c = nil_function_flows

pub returns-clause-none : goal.returns-clause-none
returns-clause-none c = nil_function_none
