use Rattle.std.proofs.Common.{◌≡◌, ℕ, Some, length, get_or, refl, sym, ap, ◌∙◌, subst}
use Rattle.std.specs.Prelude.{slice_get}
use Rattle.std.proofs.lemmas.Option.{slice_get-get_or, slice_get_read}
use Rattle.std.specs.List.{flat_map}
use Rattle.argot_report.specs.Counted.{told}
use Rattle.argot_report.specs.Growing.{TooLong}
use Rattle.argot_report.specs.Report.{escape_line}
use Rattle.argot_report.proofs.Grown.{too_long}
use Rattle.argot_report.proofs.listing.push_escapes.Goals as goal

pub push_short_escape-requires-clause-escape : goal.push_short_escape-requires-clause-escape
push_short_escape-requires-clause-escape c =
    let xs = c.as_slice-escape-items.result.now in
    let k = c.loop-escape.escape-index in
    let x = get_or xs k (record { problem = 0; source = 0; site = 0 }) in
    let at = slice_get-get_or xs k (record { problem = 0; source = 0; site = 0 }) c.loop-escape-test.true in
    c.requires.fits.escapes k x (subst (λ ys. slice_get ys k ≡ Some x) c.as_slice-escape-items.ensures at)

pub returns-in-Err-clause-err : goal.returns-in-Err-clause-err
returns-in-Err-clause-err c =
    let f = escape_line (told c.args.subject.now) in
    let xs = c.as_slice-escape-items.result.now in
    subst (λ ys. TooLong c.args.out.now (flat_map f ys) c.in-Err.fault) c.as_slice-escape-items.ensures
    (too_long f xs c.loop-escape.escape-index (record { problem = 0; source = 0; site = 0 }) c.args.out.now c.loop-escape.out c.in-Err.fault c.loop-escape-test.true c.loop-escape.invariant c.in-Err.ensures.err)
