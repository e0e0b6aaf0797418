use Rattle.argot_names_rules.proofs.Orders.{no_fault}
use Rattle.argot_names_rules.proofs.laws.no_fault.Goals as goal

pub returns : goal.returns
returns c = no_fault
