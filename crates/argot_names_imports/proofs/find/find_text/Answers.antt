use Rattle.std.proofs.Common.{sym, ◌∙◌, subst}
use Rattle.argot_names_imports.specs.declared.find.Found.TheVariants.{Library}
use Rattle.argot_names_imports.specs.Firsts.{found_at}
use Rattle.argot_names_imports.specs.Found.{IsText, known, unknown}
use Rattle.argot_names_imports.proofs.find.find_text.Goals as goal

pub returns-in-Some : goal.returns-in-Some
returns-in-Some c =
    subst (λ o. IsText c.args.path.now (found_at c.args.libraries.now c.args.path.now) (Library o)) (sym (c.copied.ensures ∙ c.get.ensures.value)) (known c.in-Some.ensures.some)

pub returns-in-None : goal.returns-in-None
returns-in-None c = unknown c.in-None.ensures.none
