use Rattle.argot_plain_worked_rules.proofs.EdgesNone.{source_place_none}
use Rattle.argot_plain_worked_rules.proofs.SourcePlaceRun.{it_runs, it_would}
use Rattle.argot_plain_worked_rules.proofs.Well.{source_place_is_well}
use Rattle.argot_plain_worked_rules.proofs.FlowsHeld.{source_place_flows}
use Rattle.argot_plain_worked_rules.proofs.FlowsNone.{source_place_flows_not}
use Rattle.argot_plain_worked_rules.proofs.source_place.Goals as goal

pub returns-clause-well_formed : goal.returns-clause-well_formed
returns-clause-well_formed c = source_place_is_well

pub returns-clause-leaks : goal.returns-clause-leaks
returns-clause-leaks c = it_runs.0

pub returns-clause-clean : goal.returns-clause-clean
returns-clause-clean c = it_runs.1

pub returns-clause-moved : goal.returns-clause-moved
returns-clause-moved c = it_runs.2

pub returns-clause-none : goal.returns-clause-none
returns-clause-none c = source_place_none

pub returns-clause-would_leak : goal.returns-clause-would_leak
returns-clause-would_leak c = it_would

pub returns-clause-flow : goal.returns-clause-flow
returns-clause-flow c = source_place_flows

pub returns-clause-no_flow : goal.returns-clause-no_flow
returns-clause-no_flow c = source_place_flows_not
