use Rattle.std.proofs.Common.{◌≡◌, Some, true, sym, ap, ◌∙◌}
use Rattle.argot_plain.specs.Code.{kind_of}
use Rattle.std.specs.Prelude.{slice_get}
use Rattle.argot_plain.specs.Counts.{calls_by_number, is_wrapper}
use Rattle.argot_plain.specs.declared.functions.Function.{Function}
use Rattle.argot_report.proofs.Owners.{wrapped}
use Rattle.argot_report.proofs.ends.is_left_out.Goals as goal

pub returns-then-by_number : goal.returns-then-by_number
returns-then-by_number c =
    let p = c.args.program.now in
    let at = c.function_of.ensures.is_in in
    let e : Some at.fn ≡ Some c.function.result.now = sym at.is ∙ c.function.ensures in
    let f : at.fn ≡ c.function.result.now = cc in
    let k : calls_by_number (kind_of (slice_get p.instrs c.args.place)) ≡ true = ap calls_by_number c.kind.ensures ∙ sym c.calls_by_number-by_number.ensures ∙ c.if-by_number.true in
    rw k (c.is_wrapper-wrapper.ensures ∙ ap (λ (z : Function). is_wrapper z.role) (sym f) ∙ sym (wrapped p c.function_of.ensures.well c.args.place c.function_of.result at))
