use Rattle.std.proofs.Common.{◌∙◌, sym, subst, List, ℕ}
use Rattle.argot_first.specs.Answer.{IsAnswer, IsReport}
use Rattle.argot_first_form.specs.Form.{HasFirstForm}
use Rattle.argot_run.specs.Due.{analysed, other_text}
use Rattle.argot_run.proofs.Owed.{when_ok, read_main, read_failed, with_status}
use Rattle.argot_run.proofs.answer.answer_to_main.Goals as goal

pub returns-in-Err-Failed : goal.returns-in-Err-Failed
returns-in-Err-Failed g c =
    when_ok _ c.naming.result _ c.naming.ensures
    (read_failed c.args.dir.now c.as_str-path.result.now c.args._listed.now _ (c.as_str-path.ensures.value ∙ c.in_ok-text.ensures)
    (rw c.in-Err-Failed.field-0-is at c.in-Err-Failed.ensures.cause) c.requires.listed c.requires.alone)

pub returns-in-Unsupported : goal.returns-in-Unsupported
returns-in-Unsupported g c =
    let lacks : HasFirstForm c.as_slice.result.now → ⊥ = subst (IsAnswer c.as_slice.result.now) c.in-Unsupported.is c.in_ok-analyse_first.ensures
    in when_ok _ c.fixed.result _ c.fixed.ensures
    (other_text c.args._listed.now c.in-Ok.bytes.items c.in-Ok.ensures.cause.0 c.requires.listed c.requires.alone
    (read_main _ c.args.dir.now c.as_str-path.result.now c.in-Ok.bytes.items (c.as_str-path.ensures.value ∙ c.in_ok-text.ensures) c.in-Ok.ensures.bytes)
    (λ form. lacks (subst HasFirstForm (sym c.as_slice.ensures.value) form)))

pub returns : goal.returns
returns g c =
    let report : IsReport c.as_slice.result.now c.in-Report.count c.in-Report.text = subst (IsAnswer c.as_slice.result.now) c.in-Report.is c.in_ok-analyse_first.ensures
    in with_status _ _ _ _ _ c.status_of.ensures
    (analysed c.args._listed.now c.in-Ok.bytes.items c.in-Report.count c.in-Report.text c.in-Ok.ensures.cause.0 c.requires.listed c.requires.alone
    (read_main _ c.args.dir.now c.as_str-path.result.now c.in-Ok.bytes.items (c.as_str-path.ensures.value ∙ c.in_ok-text.ensures) c.in-Ok.ensures.bytes)
    (subst (λ (bytes : List ℕ). IsReport bytes c.in-Report.count c.in-Report.text) c.as_slice.ensures.value report))
