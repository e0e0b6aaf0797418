use Rattle.argot_typed.proofs.Walks.{leaves_are}
use Rattle.argot_typed.proofs.laws.leaves_are_by_shape.Goals as goal

pub returns : goal.returns
returns c = leaves_are
