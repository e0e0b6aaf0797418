use Rattle.argot_check_asking.proofs.Gaining.{told_more}
use Rattle.argot_check_asking.proofs.laws.more_tells_more.Goals as goal

pub returns : goal.returns
returns g c a b more r f = told_more a b more r f
