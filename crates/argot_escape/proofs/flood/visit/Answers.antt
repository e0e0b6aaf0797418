use Rattle.std.proofs.Common.{◌≡◌, ℕ, ◌+◌, ◌++◌, ◌∷◌, [], length, take, get_or, sym, ap, ◌∙◌, arith, subst}
use Rattle.std.proofs.lemmas.List.{take_more}
use Rattle.std.proofs.lemmas.Option.{slice_get-get_or}
use Rattle.std.proofs.Math.Seq.{take-length}
use Rattle.argot_plain.specs.Lists.{In}
use Rattle.argot_facts.proofs.Listed.{in_of_get, get_within}
use Rattle.argot_escape.specs.Flooding.{Finds, LeadsTo, PlaceLeadsTo}
use Rattle.argot_escape.proofs.Finding.{finds_more, finds_empty, finds_as, ready_on}
use Rattle.argot_escape.proofs.flood.visit.Goals as goal

pub visit_place-requires-clause-inside : goal.visit_place-requires-clause-inside
visit_place-requires-clause-inside c =
    let places = c.locations_of-places.result.now in
    let i = c.loop-z.z-index in
    let z = get_or places i 0 in
    let h = (c.locations_of-places.ensures z).0 (in_of_get places i z (slice_get-get_or places i 0 c.loop-z-test.true)) in
    get_within c.args.points.now.locations z h.location h.is

pub loop-z-init : goal.loop-z-init
loop-z-init c = record { ready = c.requires; finds = finds_empty (PlaceLeadsTo c.args.points.now) c.args.found.now }

pub loop-z-preserved : goal.loop-z-preserved
loop-z-preserved c =
    let x = c.args.points.now in
    let places = c.locations_of-places.result.now in
    let i = c.loop-z.z-index in
    let z = get_or places i 0 in
    let t : take (i + 1) places ≡ take i places ++ z ∷ [] = take_more places i 0 c.loop-z-test.true in
    record {
      ready = ready_on x.locations (PlaceLeadsTo x z) c.loop-z.found c.visit_place.new.found c.visit_place.ensures c.loop-z.invariant.ready;
      finds = subst (λ ys. Finds (λ m. (y : ℕ) × In y ys × PlaceLeadsTo x y m) c.args.found.now c.visit_place.new.found) (sym t)
          (finds_more (PlaceLeadsTo x) (take i places) z c.args.found.now c.loop-z.found c.visit_place.new.found c.loop-z.invariant.finds c.visit_place.ensures);
    }

pub returns : goal.returns
returns c =
    let x = c.args.points.now in
    let places = c.locations_of-places.result.now in
    let e : c.loop-z.z-index ≡ length places = omega arith in
    let t : take c.loop-z.z-index places ≡ places = ap (λ n. take n places) e ∙ take-length places in
    finds_as (λ m. (y : ℕ) × In y (take c.loop-z.z-index places) × PlaceLeadsTo x y m) (LeadsTo x c.args.site) c.args.found.now c.loop-z.found
    (λ m h. record { at = h.0; to = h.2.to; is_at = (c.locations_of-places.ensures h.0).0 (subst (In h.0) t h.1); is_to = h.2.is_to; refers = h.2.refers })
    (λ m h. (h.at, subst (In h.at) (sym t) ((c.locations_of-places.ensures h.at).1 h.is_at), record { to = h.to; is_to = h.is_to; refers = h.refers }))
    c.loop-z.invariant.finds
