use Rattle.argot_check_asking.proofs.Lacking.{lacks}
use Rattle.argot_check_asking.proofs.laws.silent_lacks.Goals as goal

pub returns : goal.returns
returns g c typed rules known sound r l = lacks typed rules known sound l
