use Rattle.argot_plain_worked.proofs.DeferredCallRun.{it_runs}
use Rattle.argot_plain_worked.proofs.Related.{deferred_call_is_well, deferred_call_edge, deferred_call_none}
use Rattle.argot_plain_worked.proofs.deferred_call.Goals as goal

pub returns-clause-well_formed : goal.returns-clause-well_formed
returns-clause-well_formed c = deferred_call_is_well

pub returns-clause-ends : goal.returns-clause-ends
returns-clause-ends c = it_runs

pub returns-clause-edge : goal.returns-clause-edge
returns-clause-edge c = deferred_call_edge

pub returns-clause-no_flow : goal.returns-clause-no_flow
returns-clause-no_flow c = deferred_call_none
