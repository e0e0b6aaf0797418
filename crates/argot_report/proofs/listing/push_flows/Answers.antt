use Rattle.std.proofs.Common.{◌≡◌, ℕ, Some, length, get_or, refl, sym, ap, ◌∙◌, subst}
use Rattle.std.specs.Prelude.{slice_get}
use Rattle.std.proofs.lemmas.Option.{slice_get-get_or, slice_get_read}
use Rattle.std.specs.List.{flat_map}
use Rattle.argot_report.specs.Counted.{told}
use Rattle.argot_report.specs.Growing.{TooLong}
use Rattle.argot_report.specs.Report.{flow_lines}
use Rattle.argot_report.proofs.Grown.{too_long}
use Rattle.argot_report.proofs.listing.push_flows.Goals as goal

pub push_traced_flow-requires-clause-flow : goal.push_traced_flow-requires-clause-flow
push_traced_flow-requires-clause-flow c =
    let xs = c.as_slice-flow-items.result.now in
    let x = c.loop-flow-item.result in
    let at = slice_get_read xs (length xs) c.loop-flow.flow-index x refl c.loop-flow-test.true c.loop-flow-item.is in
    c.requires.fits.flows c.loop-flow.flow-index x (subst (λ ys. slice_get ys c.loop-flow.flow-index ≡ Some x) c.as_slice-flow-items.ensures at)

pub returns-in-Err-clause-err : goal.returns-in-Err-clause-err
returns-in-Err-clause-err c =
    let f = flow_lines (told c.args.subject.now) in
    let xs = c.as_slice-flow-items.result.now in
    subst (λ ys. TooLong c.args.out.now (flat_map f ys) c.in-Err.fault) c.as_slice-flow-items.ensures
    (too_long f xs c.loop-flow.flow-index c.loop-flow-item.result c.args.out.now c.loop-flow.out c.in-Err.fault c.loop-flow-test.true c.loop-flow.invariant (subst (λ z. TooLong c.loop-flow.out (f z) c.in-Err.fault) c.loop-flow-item.is c.in-Err.ensures.err))
