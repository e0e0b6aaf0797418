use Rattle.std.proofs.Common.{◌≡◌, ◌+◌, ◌<◌, ℕ, length, take, get_or, slice_get, sym, ap, ◌∙◌, subst, arith}
use Rattle.std.proofs.Math.Seq.{take-length}
use Rattle.std.proofs.lemmas.List.{take_more}
use Rattle.std.proofs.lemmas.Option.{slice_get-get_or}
use Rattle.argot_facts.proofs.Listed.{in_of_get, get_within}
use Rattle.argot_graph_edges.specs.Adding.{Adds}
use Rattle.argot_facts.specs.Pointing.{IsPlaceOf}
use Rattle.argot_plain.specs.Lists.{In}
use Rattle.argot_links.specs.Runs.{run}
use Rattle.argot_graph_edges.specs.Inward.{ToArgument, AtLocation}
use Rattle.argot_graph_edges.proofs.Sketching.{adds_none, adds_as, adds_more}
use Rattle.argot_graph_edges.proofs.arguments.meet_site.Goals as goal

pub loop-n-init : goal.loop-n-init
loop-n-init c = adds_none _ _ (λ e h. elim h.1 [ ])

pub loop-n-preserved : goal.loop-n-preserved
loop-n-preserved c =
    let xs = c.locations_of-places.result.now in
    adds_more (AtLocation c.args.drawing.now.points.now.nodes c.args.writes.now c.args.leaf c.args.site) (take c.loop-n.n xs) (take (c.loop-n.n + 1) xs) (get_or xs c.loop-n.n 0) _ _ _ (take_more xs c.loop-n.n 0 c.loop-n-test.true) c.loop-n.invariant c.in_ok-meet_location.ensures

pub meet_location-requires : goal.meet_location-requires
meet_location-requires c =
    let xs = c.locations_of-places.result.now in
    let z = get_or xs c.loop-n.n 0 in
    let p = (c.locations_of-places.ensures z).0 (in_of_get xs c.loop-n.n z (slice_get-get_or xs c.loop-n.n 0 c.loop-n-test.true)) in
    subst (λ n. z < n) (sym c.requires) (get_within c.args.drawing.now.points.now.locations z p.location p.is)

pub returns : goal.returns
returns c =
    let xs = c.locations_of-places.result.now in
    let e : c.loop-n.n ≡ length xs = omega arith in
    let t : take c.loop-n.n xs ≡ xs = ap (λ n. take n xs) e ∙ take-length xs in
    adds_as _ _ _ _
    (λ e h. (h.0, (c.locations_of-places.ensures h.0).0 (subst (In h.0) t h.1), h.2))
    (λ e h. (h.0, subst (In h.0) (sym t) ((c.locations_of-places.ensures h.0).1 h.1), h.2))
    c.loop-n.invariant
