use Rattle.argot_plain_worked.proofs.CalledMethodRun.{it_runs}
use Rattle.argot_plain_worked.proofs.CalledMethodLeak.{it_leaks}
use Rattle.argot_plain_worked.proofs.Related.{called_methods_are_well, called_method_flows, called_method_none}
use Rattle.argot_plain_worked.proofs.called_method.Goals as goal

pub returns-clause-well_formed : goal.returns-clause-well_formed
returns-clause-well_formed c = called_methods_are_well

pub returns-clause-ends : goal.returns-clause-ends
returns-clause-ends c = it_runs

pub returns-clause-leaks : goal.returns-clause-leaks
returns-clause-leaks c = it_leaks

pub returns-clause-flow : goal.returns-clause-flow
returns-clause-flow c = called_method_flows

pub returns-clause-none : goal.returns-clause-none
returns-clause-none c = called_method_none
