use Rattle.std.proofs.Common.{◌≡◌, ◌<◌, Some, slice_get, get_or, length, arith, ◌∙◌}
use Rattle.std.proofs.lemmas.Option.{slice_get-get_or}
use Rattle.argot_config.specs.Looking.{IsFirstFound, three_of}
use Rattle.argot_config.proofs.Lowered.{counted_at, lowered_all, lowered_next, lowered_none}
use Rattle.argot_config.proofs.places.lower.Goals as goal

pub loop-i-init : goal.loop-i-init
loop-i-init c = (lowered_none c.args.program.now c.args.matcher.now c.args.firsts.now, c.in_ok-look.ensures)

pub first-found-requires : goal.first-found-requires
first-found-requires c =
    let now = c.loop-i.firsts in
    let i = c.loop-i.i in
    let within : i < length now = let n = c.loop-i.invariant.0.count in let r = c.requires.count in omega arith in
    let at : slice_get now i ≡ Some (get_or now i 0) = slice_get-get_or now i 0 within in
    rw c.as_slice-tags.ensures (counted_at c.args.program.now c.args.matcher.now i (get_or now i 0) c.args.firsts.now now c.instr.result.now c.requires c.loop-i.invariant.0 c.instr.ensures at)

pub loop-i-preserved : goal.loop-i-preserved
loop-i-preserved c =
    let now = c.loop-i.firsts in
    let i = c.loop-i.i in
    let m = c.args.matcher.now in
    let within : i < length now = let n = c.loop-i.invariant.0.count in let r = c.requires.count in omega arith in
    let at : slice_get now i ≡ Some (get_or now i 0) = slice_get-get_or now i 0 within in
    let found : IsFirstFound (three_of m) m.kind c.instr.result.now.tags (get_or now i 0) c.first-found.result = rw (c.as_slice-tags.ensures, c.loop-i.invariant.1) at c.first-found.ensures.found in
    (lowered_next c.args.program.now m i c.args.firsts.now now c.instr.result.now (get_or now i 0) c.first-found.result c.loop-i.invariant.0 c.instr.ensures within at found, c.first-found.ensures.same ∙ c.loop-i.invariant.1)

pub returns : goal.returns
returns c = lowered_all c.args.program.now c.args.matcher.now c.loop-i.i c.args.firsts.now c.loop-i.firsts (omega arith) c.loop-i.invariant.0
