use Rattle.std.proofs.Common.{◌≡◌, length, sym, arith, subst}
use Rattle.argot_links.specs.Runs.{AreHeaded}
use Rattle.argot_facts.proofs.Listed.{in_of_get}
use Rattle.argot_facts.proofs.Seconds.{IsPaired, paired_are, runs_are, ok_then}
use Rattle.argot_facts.proofs.pointing.by_site.Goals as goal

pub of-requires-clause-headed : goal.of-requires-clause-headed
of-requires-clause-headed c = λ k x e.
    let z : c.loop-y.y ≡ length c.args.locations.now = omega arith in
    let i : IsPaired (length c.args.locations.now) c.args.locations.now c.deref.result.now =
    subst (λ n. IsPaired n c.args.locations.now c.deref.result.now) z (subst (IsPaired c.loop-y.y c.args.locations.now) (sym c.deref.ensures.value) c.loop-y.invariant) in
    c.requires.inside x.1 x.0 ((paired_are c.args.locations.now c.deref.result.now i x.0 x.1).0 (in_of_get c.deref.result.now k x e))

pub returns : goal.returns
returns c =
    let ls = c.args.locations.now in
    let ps = c.deref.result.now in
    let z : c.loop-y.y ≡ length ls = omega arith in
    let i : IsPaired (length ls) ls ps = subst (λ n. IsPaired n ls ps) z (subst (IsPaired c.loop-y.y ls) (sym c.deref.ensures.value) c.loop-y.invariant) in
    let headed : AreHeaded c.args.sites ps = λ k x e. c.requires.inside x.1 x.0 ((paired_are ls ps i x.0 x.1).0 (in_of_get ps k x e)) in
    ok_then c.of.result _ _ (runs_are c.of.result c.args.sites ps headed c.of.ensures.count c.of.ensures.runs)
    (λ r h s y. let a = h s y in let b = paired_are ls ps i s y in ((λ m. b.0 (a.0 m)), λ m. a.1 (b.1 m)))
