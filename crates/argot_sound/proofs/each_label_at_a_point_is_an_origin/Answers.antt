use Rattle.argot_sound.proofs.Conclusion.{label_origin}
use Rattle.argot_sound.proofs.each_label_at_a_point_is_an_origin.Goals as goal

pub returns : goal.returns
returns c = λ p pr begins wf first n x r l t k h. label_origin p pr wf begins first r l t k h
