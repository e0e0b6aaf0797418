use Rattle.std.proofs.Common.{refl}
use Rattle.argot_stubs.specs.Texts.{errors_text}
use Rattle.argot_stubs.proofs.texts.errors_stub.Goals as goal

pub returns : goal.returns
unfolding errors_text
returns c = refl
