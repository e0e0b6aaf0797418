use Rattle.argot_check_asking.proofs.Looping.{no_fact}
use Rattle.argot_check_asking.proofs.laws.no_fact_on_loops.Goals as goal

pub returns : goal.returns
returns g c typed rules n f = no_fact typed rules
