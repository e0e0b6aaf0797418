use Rattle.std.proofs.Common.{◌≡◌, subst, Some}
use Rattle.std.specs.Prelude.{slice_get, IfSome, IfNone}
use Rattle.argot_names_scopes.specs.declared.file.FileNames.{FileNames}
use Rattle.argot_names_tops.proofs.Looking.{names_found, no_names}
use Rattle.argot_names_tops.proofs.tops.file_names.Goals as goal

pub returns-clause-some : goal.returns-clause-some
returns-clause-some c = λ h main r are.
    names_found h main r c.args.tops.now are c.args.file c.names_at.result
    (subst (λ fs. IfSome c.names_at.result (λ n. slice_get fs c.args.file ≡ Some (Some n.now))) c.deref.ensures.value c.names_at.ensures.some)

pub returns-clause-none : goal.returns-clause-none
returns-clause-none c = λ h main r home are.
    no_names h main r c.args.tops.now are home c.args.file c.names_at.result
    (subst (λ fs. IfNone c.names_at.result ((n : FileNames) → slice_get fs c.args.file ≡ Some (Some n) → ⊥)) c.deref.ensures.value c.names_at.ensures.none)
