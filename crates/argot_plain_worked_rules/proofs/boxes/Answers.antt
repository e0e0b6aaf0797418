use Rattle.argot_plain_worked_rules.proofs.BoxesRun.{it_leaks}
use Rattle.argot_plain_worked_rules.proofs.Well.{boxes_is_well}
use Rattle.argot_plain_worked_rules.proofs.EdgesNone.{boxes_none}
use Rattle.argot_plain_worked_rules.proofs.FlowsHeld.{boxes_flows}
use Rattle.argot_plain_worked_rules.proofs.boxes.Goals as goal

pub returns-clause-well_formed : goal.returns-clause-well_formed
returns-clause-well_formed c = boxes_is_well

pub returns-clause-leaks : goal.returns-clause-leaks
returns-clause-leaks c = it_leaks

pub returns-clause-flow : goal.returns-clause-flow
returns-clause-flow c = boxes_flows

pub returns-clause-none : goal.returns-clause-none
returns-clause-none c = boxes_none
