use Rattle.argot_typed.proofs.Ending.{ordered_fit}
use Rattle.argot_typed.proofs.tests.worked_row.Goals as goal

pub from_vec-requires : goal.from_vec-requires
from_vec-requires c = ordered_fit _ c.in_ok-put_pair.ensures.ordered
