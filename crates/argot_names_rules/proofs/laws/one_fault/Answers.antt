use Rattle.argot_names_rules.proofs.Orders.{one_fault}
use Rattle.argot_names_rules.proofs.laws.one_fault.Goals as goal

pub returns : goal.returns
returns c = one_fault
