use Rattle.argot_sound.proofs.Progress.{has_step}
use Rattle.argot_sound.proofs.each_live_goroutine_has_a_step.Goals as goal

pub returns : goal.returns
returns c = λ p l wf n x r going g f rest get. has_step p wf l r g f rest get
