use Rattle.argot_typed.proofs.Ending.{ordered_fit}
use Rattle.argot_typed.proofs.laws.ordered_tables_fit.Goals as goal

pub returns : goal.returns
returns c = ordered_fit
