use Rattle.std.proofs.Common.{refl}
use Rattle.argot_stubs.specs.Texts.{sync_text}
use Rattle.argot_stubs.proofs.texts.sync_stub.Goals as goal

pub returns : goal.returns
unfolding sync_text
returns c = refl
