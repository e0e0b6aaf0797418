use Rattle.std.proofs.Common.{◌≡◌, Some, sym, ap, ◌∙◌, ◌++◌, arith, subst}
use Rattle.std.proofs.lemmas.Result.{on_ok_weaker}
use Rattle.std.proofs.lemmas.Grind.{common_steps}
use Rattle.argot_report.proofs.Owners.{named, nameless}
use Rattle.argot_report.proofs.writing.push_function.Goals as goal

pub returns-then-place-len : goal.returns-then-place-len
returns-then-place-len c =
    let at = c.function_of-g.ensures.is_in in
    let n = named c.args.program.now c.len.ensures.well c.args.place c.function_of-g.result at in
    let e : Some at.fn ≡ Some c.function.result.now = sym at.is ∙ c.function.ensures in
    let f : at.fn ≡ c.function.result.now = cc in
    let t = c.as_str.ensures in
    on_ok_weaker c.push_str.result (λ h. grind (arith, common_steps)) c.push_str.ensures.ok

pub returns : goal.returns
returns c =
    let n = nameless c.args.program.now c.len.ensures.well c.args.place (omega arith) in
    grind (arith, common_steps)
