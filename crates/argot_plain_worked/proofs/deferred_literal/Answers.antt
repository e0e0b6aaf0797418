use Rattle.argot_plain_worked.proofs.DeferredLiteralLeak.{it_leaks}
use Rattle.argot_plain_worked.proofs.Related.{deferred_literal_is_well, deferred_literal_flows, deferred_literal_none}
use Rattle.argot_plain_worked.proofs.deferred_literal.Goals as goal

pub returns-clause-well_formed : goal.returns-clause-well_formed
returns-clause-well_formed c = deferred_literal_is_well

pub returns-clause-leaks : goal.returns-clause-leaks
returns-clause-leaks c = it_leaks

pub returns-clause-flow : goal.returns-clause-flow
returns-clause-flow c = deferred_literal_flows

pub returns-clause-none : goal.returns-clause-none
returns-clause-none c = deferred_literal_none
