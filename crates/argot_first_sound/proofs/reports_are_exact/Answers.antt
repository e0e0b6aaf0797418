use Rattle.argot_first_sound.proofs.Conclusion.{exact}
use Rattle.argot_first_sound.proofs.reports_are_exact.Goals as goal

pub returns : goal.returns
returns c = exact
