use Rattle.std.proofs.Common.{◌≡◌, ◌<◌, Some, sym, ◌++◌, length, arith, subst}
use Rattle.std.proofs.lemmas.Result.{on_ok_weaker}
use Rattle.std.proofs.lemmas.Grind.{common_steps}
use Rattle.argot_report.proofs.Owners.{placed, nowhere}
use Rattle.argot_report.proofs.writing.push_place.Goals as goal

pub push_pos-requires : goal.push_pos-requires
push_pos-requires c = subst (λ fs. c.instr.result.now.at.file < length fs) (sym c.files.ensures) (c.len.ensures.well.numbers.instr_file c.args.place c.instr.result.now c.instr.ensures)

pub returns-then-place-len : goal.returns-then-place-len
returns-then-place-len c =
    let n = placed c.args.program.now c.args.place c.instr.result.now c.instr.ensures in
    on_ok_weaker c.push_pos.result (λ h. grind (arith, common_steps)) c.push_pos.ensures.ok

pub returns : goal.returns
returns c =
    let n = nowhere c.args.program.now c.args.place (omega arith) in
    grind (arith, common_steps)
