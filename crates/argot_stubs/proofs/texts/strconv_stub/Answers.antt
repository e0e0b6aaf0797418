use Rattle.std.proofs.Common.{refl}
use Rattle.argot_stubs.specs.Texts.{strconv_text}
use Rattle.argot_stubs.proofs.texts.strconv_stub.Goals as goal

pub returns : goal.returns
unfolding strconv_text
returns c = refl
