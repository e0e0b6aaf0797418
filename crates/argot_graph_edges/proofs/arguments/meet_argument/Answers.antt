use Rattle.std.proofs.Common.{◌≡◌, ◌<◌, Some, slice_get, length, refl, sym, ap, ◌∙◌, subst, arith}
use Rattle.argot_facts.specs.Marked.{IsSet}
use Rattle.argot_facts.specs.Numbers.{node}
use Rattle.argot_facts.proofs.Listed.{in_of_get}
use Rattle.argot_facts.proofs.Located.{locations_are}
use Rattle.argot_plain.specs.Lists.{In}
use Rattle.argot_graph_edges.specs.Inward.{AtSite}
use Rattle.argot_graph_edges.proofs.Sketching.{adds_as_last}
use Rattle.argot_graph_edges.proofs.arguments.meet_argument.Goals as goal

pub reached-requires-clause-sites : goal.reached-requires-clause-sites
reached-requires-clause-sites c = λ s y h.
    let p = c.args.drawing.now.program.now in
    let m = subst (In h.location) c.requires.fits.locations (in_of_get _ y h.location h.is) in
    let low = (((locations_are p).each h.location).0 m).site in
    let n : c.in-Ok.sites ≡ length p.sites = c.in-Ok.ensures.1 ∙ c.site_count.ensures.count in
    omega (arith, low, n, h.site)

pub returns : goal.returns
returns c =
    let x = c.args.drawing.now.points.now in
    let at = c.args.at in
    let same = c.deref.ensures.value in
    let ns = c.nodes.ensures.nodes in
    adds_as_last c.meet_sites.result _ _ _ _
    (λ e h. record { number = c.in-Some.node; is = subst (λ xs. slice_get xs c.in-Some.node ≡ Some (node c.args.place c.args.index 0)) ns c.in-Some.ensures.some; site = h.0; leads = (c.in_ok-flags.ensures h.0).0 (subst (λ v. IsSet v h.0) same h.1.0); write = h.1.1 })
    (λ e r. (r.site, (subst (λ v. IsSet v r.site) (sym same) ((c.in_ok-flags.ensures r.site).1 r.leads), subst (λ n. AtSite x c.args.writes.now (record { node = n; at = at }) r.site e) (c.in-Some.ensures.only r.number (subst (λ xs. slice_get xs r.number ≡ Some (node c.args.place c.args.index 0)) (sym ns) r.is)) r.write))) c.meet_sites.ensures
