use Rattle.std.proofs.Common.{refl, sym, ◌∙◌, ap}
use Rattle.std.specs.Option.{option_copied}
use Rattle.argot_run.specs.Due.{wrong_words}
use Rattle.argot_run.proofs.Owed.{when_ok, when_asked}
use Rattle.argot_run.proofs.answer.answer_to.Goals as goal

pub returns-in-None : goal.returns-in-None
returns-in-None g c =
    when_ok _ c.fixed.result _ c.fixed.ensures (wrong_words (sym c.asked.ensures ∙ ap option_copied c.in-None.is) refl)

pub returns-in-Some : goal.returns-in-Some
returns-in-Some g c =
    when_asked _ c.in-Some.dir.now _ (sym c.asked.ensures ∙ ap option_copied c.in-Some.is) c.answer_to_folder.result c.answer_to_folder.ensures
