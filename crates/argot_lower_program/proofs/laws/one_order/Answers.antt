use Rattle.argot_lower_program.proofs.Orders.{one_order, one_variables}
use Rattle.argot_lower_program.proofs.laws.one_order.Goals as goal

pub returns-clause-functions : goal.returns-clause-functions
returns-clause-functions c = one_order

pub returns-clause-variables : goal.returns-clause-variables
returns-clause-variables c = one_variables
