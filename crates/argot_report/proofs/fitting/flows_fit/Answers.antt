use Rattle.std.proofs.Common.{◌≡◌, ◌<◌, List, refl, sym, ◌∙◌, arith, subst}
use Rattle.argot_facts.specs.declared.findings.Flow.{Flow}
use Rattle.argot_facts.specs.declared.findings.Hop.{Hop}
use Rattle.argot_report.proofs.Every.{all_of, its, one_more}
use Rattle.argot_report.proofs.fitting.flows_fit.Goals as goal

pub returns-then-not-flow_fits-clause-no : goal.returns-then-not-flow_fits-clause-no
returns-then-not-flow_fits-clause-no c = λ h.
    let P = λ (y : Flow × List Hop). (y.0.source < c.args.places) × (y.0.sink < c.args.places) in
    let t = c.flow_fits.ensures.no (its P c.args.flows.now c.loop-k.k c.index-flows-k.result h c.loop-k-test.true) in
    let f = c.if-not-flow_fits.true in
    absurd cc

pub loop-k-preserved : goal.loop-k-preserved
loop-k-preserved c =
    let P = λ (y : Flow × List Hop). (y.0.source < c.args.places) × (y.0.sink < c.args.places) in
    one_more P c.args.flows.now c.loop-k.k c.index-flows-k.result c.loop-k.invariant c.loop-k-test.true (c.flow_fits.ensures.yes c.if-not-flow_fits.false)

pub returns-clause-yes : goal.returns-clause-yes
returns-clause-yes c = λ t. all_of (λ (y : Flow × List Hop). (y.0.source < c.args.places) × (y.0.sink < c.args.places)) c.args.flows.now c.loop-k.k c.loop-k.invariant c.loop-k-test.false
