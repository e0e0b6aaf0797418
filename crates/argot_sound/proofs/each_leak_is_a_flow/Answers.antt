use Rattle.argot_sound.proofs.Conclusion.{leak_flows}
use Rattle.argot_sound.proofs.each_leak_is_a_flow.Goals as goal

pub returns : goal.returns
returns c = λ p pr wf n x r s t k h. leak_flows p pr wf r s t k h
