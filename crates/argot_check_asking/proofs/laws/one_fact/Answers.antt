use Rattle.argot_check_asking.proofs.Unique.{one_fact}
use Rattle.argot_check_asking.proofs.laws.one_fact.Goals as goal

pub returns : goal.returns
returns g c typed rules n f h = one_fact typed rules
