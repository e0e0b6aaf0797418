use Rattle.std.proofs.Common.{refl}
use Rattle.argot_stubs.specs.Texts.{fmt_text}
use Rattle.argot_stubs.proofs.texts.fmt_stub.Goals as goal

pub returns : goal.returns
unfolding fmt_text
returns c = refl
