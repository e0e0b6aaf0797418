use Rattle.argot_typed.proofs.Ending.{ranked_end}
use Rattle.argot_typed.proofs.laws.ranked_walks_end.Goals as goal

pub returns : goal.returns
returns c = ranked_end
