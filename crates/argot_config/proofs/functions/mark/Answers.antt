use Rattle.std.proofs.Common.{◌≡◌, ◌||◌, ◌<◌, Some, true, false, slice_get, get_or, length, arith, ◌∙◌}
use Rattle.std.proofs.lemmas.Option.{slice_get-get_or}
use Rattle.argot_config.specs.Looking.{finds_function, three_of}
use Rattle.argot_config.specs.Matching.{looks_at_functions}
use Rattle.argot_config.proofs.Marked.{marked_all, marked_next, marked_none}
use Rattle.argot_config.proofs.functions.mark.Goals as goal

pub loop-g-init : goal.loop-g-init
loop-g-init c = (marked_none c.args.program.now c.args.matcher.now c.args.marks.now, c.in_ok-passing.ensures.same ∙ c.in_ok-look.ensures)

pub loop-g-preserved : goal.loop-g-preserved
loop-g-preserved c =
    let p = c.args.program.now in
    let m = c.args.matcher.now in
    let g = c.loop-g.g in
    let now = c.loop-g.marks in
    let k : looks_at_functions m.kind ≡ true = cc in
    let within : g < length now = omega arith in
    let at : slice_get now g ≡ Some (get_or now g false) = slice_get-get_or now g false within in
    let found : c.is_marked-mark.result ≡ (get_or now g false || finds_function (three_of m) c.function.result.now.ident) = rw c.loop-g.invariant.1 at c.is_marked-mark.ensures.found in
    (marked_next p m g c.args.marks.now now c.function.result.now (get_or now g false) c.is_marked-mark.result k c.loop-g.invariant.0 c.function.ensures within at found, c.is_marked-mark.ensures.same ∙ c.loop-g.invariant.1)

pub returns-clause-marked : goal.returns-clause-marked
returns-clause-marked c = marked_all c.args.program.now c.args.matcher.now c.loop-g.g c.args.marks.now c.loop-g.marks (omega arith) c.loop-g.invariant.0
