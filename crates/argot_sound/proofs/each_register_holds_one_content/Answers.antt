use Rattle.argot_sound.proofs.Runs.{holds_one}
use Rattle.argot_sound.proofs.each_register_holds_one_content.Goals as goal

pub returns : goal.returns
returns c = λ p l wf n x r g frames get f m c' d i k same leaf none. (holds_one p wf l r g frames get f m).each c' d i k same leaf none
