use Rattle.std.proofs.Common.{◌≡◌, ◌<◌, List, sym, arith, subst}
use Rattle.argot_facts.specs.declared.findings.Hop.{Hop}
use Rattle.argot_facts.specs.declared.findings.Origin.{Origin}
use Rattle.argot_report.proofs.Every.{all_of, its, one_more}
use Rattle.argot_report.proofs.fitting.origins_fit.Goals as goal

pub returns-then-origins-k-clause-no : goal.returns-then-origins-k-clause-no
returns-then-origins-k-clause-no c = λ h.
    let P = λ (y : Origin × List Hop). y.0.point < c.args.places in
    let l = its P c.args.origins.now c.loop-k.k c.index-origins-k.result h c.loop-k-test.true in
    let t = c.if-origins-k.true in
    absurd (omega arith)

pub loop-k-preserved : goal.loop-k-preserved
loop-k-preserved c =
    let P = λ (y : Origin × List Hop). y.0.point < c.args.places in
    let t = c.if-origins-k.false in
    one_more P c.args.origins.now c.loop-k.k c.index-origins-k.result c.loop-k.invariant c.loop-k-test.true (omega arith)

pub returns-clause-yes : goal.returns-clause-yes
returns-clause-yes c = λ t. all_of (λ (y : Origin × List Hop). y.0.point < c.args.places) c.args.origins.now c.loop-k.k c.loop-k.invariant c.loop-k-test.false
