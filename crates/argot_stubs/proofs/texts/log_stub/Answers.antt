use Rattle.std.proofs.Common.{refl}
use Rattle.argot_stubs.specs.Texts.{log_text}
use Rattle.argot_stubs.proofs.texts.log_stub.Goals as goal

pub returns : goal.returns
unfolding log_text
returns c = refl
