use Rattle.argot_first_sound.proofs.Conclusion.{well-formed}
use Rattle.argot_first_sound.proofs.is_well_formed.Goals as goal

pub returns : goal.returns
returns c = well-formed
