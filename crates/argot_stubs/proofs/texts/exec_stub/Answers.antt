use Rattle.std.proofs.Common.{refl}
use Rattle.argot_stubs.specs.Texts.{exec_text}
use Rattle.argot_stubs.proofs.texts.exec_stub.Goals as goal

pub returns : goal.returns
unfolding exec_text
returns c = refl
