use Rattle.std.proofs.Common.{◌+◌, ◌≤◌, length, sym, ap, ◌∙◌, arith, subst}
use Rattle.std.specs.Prelude.{◌↔◌}
use Rattle.argot_links.specs.Runs.{run}
use Rattle.argot_plain.specs.Lists.{In}
use Rattle.argot_facts.specs.Graphs.{IsOrdered, IsBefore}
use Rattle.argot_facts.specs.Numbers.{locations_of}
use Rattle.argot_facts.specs.Marked.{IsSet}
use Rattle.argot_facts.specs.Pointing.{IsPlaceOf}
use Rattle.argot_facts.proofs.Listed.{in_of_get}
use Rattle.argot_facts.proofs.Located.{locations_are}
use Rattle.argot_facts.proofs.Marked.{nodes_are}
use Rattle.argot_facts.proofs.pointing.Points.from_parts.Goals as goal

pub by_site-requires-clause-inside : goal.by_site-requires-clause-inside
by_site-requires-clause-inside c = λ y s h.
    let p = c.args.program.now in
    let e = c.deref.ensures.value ∙ c.requires.locations in
    let m : In h.location (locations_of p) = subst (In h.location) e (in_of_get c.deref.result.now y h.location h.is) in
    let i = ((locations_are p).each h.location).0 m in
    let z = h.site in
    let l = i.site in
    let n = c.site_count.ensures.count in
    let k = c.in-Ok.ensures.1 in
    omega arith

pub from_vec-requires : goal.from_vec-requires
from_vec-requires c = subst (IsOrdered IsBefore) (sym c.requires.nodes) (nodes_are c.args.program.now c.site_count.ensures.well).ordered

pub invariant_of-result : goal.invariant_of-result
invariant_of-result c =
    let listed = c.from_vec.ensures in
    let rows = c.requires.rows in
    record {
      rows = record { rows = rows.rows ∙ ap (λ n. length n + length c.args.parts.locations.items) (sym listed); cols = rows.cols; few_nodes = subst (λ n. length n ≤ 262144) (sym listed) rows.few_nodes; few_locations = rows.few_locations };
      ordered = subst (IsOrdered IsBefore) (sym listed) (subst (IsOrdered IsBefore) (sym c.requires.nodes) (nodes_are c.args.program.now c.site_count.ensures.well).ordered);
      sites = λ s y. subst (λ ls. In y (run c.in_ok-by_site.by_site s) ↔ IsPlaceOf ls s y) c.deref.ensures.value (c.in_ok-by_site.ensures s y);
      places = λ i g. subst (λ ts. In g (run c.in_ok-by_place.by_place i) ↔ In (i, g) ts) c.deref-2.ensures.value (c.in_ok-by_place.ensures i g);
      flags = λ g. subst (λ ls. IsSet c.in_ok-is_live.is_live.items g ↔ In g ls) c.deref-3.ensures.value (c.in_ok-is_live.ensures g);
    }

pub by_place-requires : goal.by_place-requires
by_place-requires c = λ i g m.
    let n = c.len.ensures.count in
    let l = c.requires.places i g (subst (In (i, g)) c.deref-2.ensures.value m) in
    omega arith
