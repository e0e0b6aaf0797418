use Rattle.argot_check_typing.proofs.First.{one_first}
use Rattle.argot_check_typing.proofs.laws.one_first_node.Goals as goal

pub returns : goal.returns
returns c code m n f g = one_first code m n f g
