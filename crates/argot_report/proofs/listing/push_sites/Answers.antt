use Rattle.std.proofs.Common.{◌≡◌, ℕ, Some, length, get_or, refl, sym, ap, ◌∙◌, subst}
use Rattle.std.specs.Prelude.{slice_get}
use Rattle.std.proofs.lemmas.Option.{slice_get-get_or, slice_get_read}
use Rattle.argot_plain.specs.Lists.{In}
use Rattle.argot_facts.proofs.Listed.{in_of_get}
use Rattle.std.specs.List.{flat_map}
use Rattle.argot_report.specs.Counted.{told}
use Rattle.argot_report.specs.Growing.{TooLong}
use Rattle.argot_report.specs.Report.{site_line}
use Rattle.argot_report.proofs.Grown.{too_long}
use Rattle.argot_report.proofs.listing.push_sites.Goals as goal

pub returns-in-Err-clause-err : goal.returns-in-Err-clause-err
returns-in-Err-clause-err c =
    let f = site_line (told c.args.subject.now) in
    let xs = c.as_slice-site-items.result.now in
    subst (λ ys. TooLong c.args.out.now (flat_map f ys) c.in-Err.fault) c.as_slice-site-items.ensures
    (too_long f xs c.loop-site.site-index 0 c.args.out.now c.loop-site.out c.in-Err.fault c.loop-site-test.true c.loop-site.invariant c.in-Err.ensures.err)
