use Rattle.argot_first_sound.proofs.Conclusion.{each-leak}
use Rattle.argot_first_sound.proofs.each_leak_is_a_flow.Goals as goal

pub returns : goal.returns
returns c = each-leak
