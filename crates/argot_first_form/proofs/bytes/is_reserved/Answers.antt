use Rattle.std.proofs.Common.{◌∙◌}
use Rattle.argot_first_form.proofs.Reserved.{same_words}
use Rattle.argot_first_form.proofs.bytes.is_reserved.Goals as goal

pub returns : goal.returns
returns c = c.is_among.ensures ∙ same_words c.args.name.now
