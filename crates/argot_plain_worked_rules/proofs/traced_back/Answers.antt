use Rattle.argot_plain_worked_rules.proofs.EdgesNone.{traced_program_none}
use Rattle.argot_plain_worked_rules.proofs.TracedBackRun.{it_runs}
use Rattle.argot_plain_worked_rules.proofs.Well.{traced_program_is_well}
use Rattle.argot_plain_worked_rules.proofs.EdgesHeld.{traced_plain}
use Rattle.argot_plain_worked_rules.proofs.traced_back.Goals as goal

pub returns-clause-well_formed : goal.returns-clause-well_formed
returns-clause-well_formed c = traced_program_is_well

pub returns-clause-traced : goal.returns-clause-traced
returns-clause-traced c = it_runs

pub returns-clause-none : goal.returns-clause-none
returns-clause-none c = traced_program_none

pub returns-clause-edge : goal.returns-clause-edge
returns-clause-edge c = traced_plain
