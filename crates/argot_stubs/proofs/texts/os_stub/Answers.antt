use Rattle.std.proofs.Common.{refl}
use Rattle.argot_stubs.specs.Texts.{os_text}
use Rattle.argot_stubs.proofs.texts.os_stub.Goals as goal

pub returns : goal.returns
unfolding os_text
returns c = refl
