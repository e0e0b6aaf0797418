use Rattle.argot_check_asking.proofs.Closing.{exact}
use Rattle.argot_check_asking.proofs.laws.closed_is_exact.Goals as goal

pub returns : goal.returns
returns g c typed rules fact ready done = exact typed rules fact ready done
