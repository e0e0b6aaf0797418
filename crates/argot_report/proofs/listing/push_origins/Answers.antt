use Rattle.std.proofs.Common.{◌≡◌, ℕ, Some, length, get_or, refl, sym, ap, ◌∙◌, subst}
use Rattle.std.specs.Prelude.{slice_get}
use Rattle.std.proofs.lemmas.Option.{slice_get-get_or, slice_get_read}
use Rattle.std.specs.List.{flat_map}
use Rattle.argot_report.specs.Counted.{told}
use Rattle.argot_report.specs.Growing.{TooLong}
use Rattle.argot_report.specs.Report.{origin_lines}
use Rattle.argot_report.proofs.Grown.{too_long}
use Rattle.argot_report.proofs.listing.push_origins.Goals as goal

pub push_traced_origin-requires-clause-origin : goal.push_traced_origin-requires-clause-origin
push_traced_origin-requires-clause-origin c =
    let xs = c.as_slice-origin-items.result.now in
    let x = c.loop-origin-item.result in
    let at = slice_get_read xs (length xs) c.loop-origin.origin-index x refl c.loop-origin-test.true c.loop-origin-item.is in
    c.requires.fits.origins c.loop-origin.origin-index x (subst (λ ys. slice_get ys c.loop-origin.origin-index ≡ Some x) c.as_slice-origin-items.ensures at)

pub returns-in-Err-clause-err : goal.returns-in-Err-clause-err
returns-in-Err-clause-err c =
    let f = origin_lines (told c.args.subject.now) in
    let xs = c.as_slice-origin-items.result.now in
    subst (λ ys. TooLong c.args.out.now (flat_map f ys) c.in-Err.fault) c.as_slice-origin-items.ensures
    (too_long f xs c.loop-origin.origin-index c.loop-origin-item.result c.args.out.now c.loop-origin.out c.in-Err.fault c.loop-origin-test.true c.loop-origin.invariant (subst (λ z. TooLong c.loop-origin.out (f z) c.in-Err.fault) c.loop-origin-item.is c.in-Err.ensures.err))
