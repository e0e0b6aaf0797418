use Rattle.std.proofs.Common.{◌≡◌, ◌+◌, sym, ◌∙◌, subst, arith}
use Rattle.argot_points.specs.Reading.{AreListed}
use Rattle.argot_points.proofs.Aims.{start_next}
use Rattle.argot_points.proofs.aiming.list_places.Goals as goal

pub returns-clause-listed : goal.returns-clause-listed
returns-clause-listed c =
    let fn = c.function-function.result.now in
    let r = c.requires.fits.well.ranges.inside c.args.h fn c.function-function.ensures in
    let e : c.loop-place.place ≡ fn.leave + 1 = omega (arith, r.0, r.1) in
    subst (λ m. AreListed c.args.system.now c.args.tables.now m c.loop-place.found.items)
    (e ∙ sym (start_next c.args.system.now.program.now c.requires.fits.well.ranges c.args.h fn c.function-function.ensures)) c.loop-place.invariant.listed
