use Rattle.std.proofs.Common.{refl}
use Rattle.argot_stubs.specs.Texts.{strings_text}
use Rattle.argot_stubs.proofs.texts.strings_stub.Goals as goal

pub returns : goal.returns
unfolding strings_text
returns c = refl
