-- The sites that are found from what stands at an index of a place are those that it reaches.
use Rattle.std.proofs.Common.{◌≡◌, ℕ, sym, ap, ◌∙◌, subst}
use Rattle.argot_plain.specs.Code.{Code}
use Rattle.argot_plain.specs.Lists.{In}
use Rattle.argot_plain.specs.Nodes.{Mark, HasLeaf}
use Rattle.argot_plain.specs.WellFormed.{WellFormed}
use Rattle.argot_facts.specs.Edges.{ReachableBy, direct, through}
use Rattle.argot_facts.specs.Handed.{FactsOf, IsLocated}
use Rattle.argot_facts.specs.Pointing.{Pointing, FitsPoints, IsPlaceOf}
use Rattle.argot_facts.specs.Refers.{loc}
use Rattle.argot_facts.proofs.Listed.{in_of_get}
use Rattle.argot_facts.proofs.Marked.{nodes_are}
use Rattle.argot_escape.specs.Flooding.{FoundBy, at_start, led_to, IndexLeadsTo}

module _ (p : Code) (wf : WellFormed p) (x : Pointing) (fits : FitsPoints p x) (i k : ℕ) where
  located : (s y : ℕ) (h : IsPlaceOf x.locations s y) → IsLocated x.locations y (loc s h.location.path)
  located s y h = record { location = h.location; is = h.is; same = ap (λ z. loc z h.location.path) h.site }

  index_reaches : (s : ℕ) → IndexLeadsTo x i k s → ReachableBy p (FactsOf p x) i k s
  index_reaches s (n, a, is, place, index, r) =
      let m = ((nodes_are p wf).each a).0 (subst (In a) fits.nodes (in_of_get x.nodes n a is)) in
      let b : Mark = m.0 in
      let at : b.place ≡ i = sym m.1.place ∙ place in
      let on : b.index ≡ k = sym m.1.index ∙ index in
      let leaf : HasLeaf p i k a.leaf b.leaf = subst (λ z. HasLeaf p z k a.leaf b.leaf) at (subst (λ z. HasLeaf p b.place z a.leaf b.leaf) on m.1.has) in
      direct b.leaf r.is_to.location.path (n, r.to, record { node = a; is = is; marked = record { place = place; index = index; has = leaf } }, located s r.to r.is_to, r.refers)

  pub found_reachable : (s : ℕ) → FoundBy x (IndexLeadsTo x i k) s → ReachableBy p (FactsOf p x) i k s
  found_reachable s (at_start h) = index_reaches s h
  found_reachable s (led_to o h l) = through o l.is_at.location.path l.is_to.location.path (found_reachable o h) (l.at, l.to, located o l.at l.is_at, located s l.to l.is_to, l.refers)

  pub reachable_found : (s : ℕ) → ReachableBy p (FactsOf p x) i k s → FoundBy x (IndexLeadsTo x i k) s
  reachable_found s (direct q path f) =
      at_start (f.0, f.2.node, f.2.is, f.2.marked.place, f.2.marked.index, record { to = f.1; is_to = record { location = f.3.location; is = f.3.is; site = ap (λ z. z.site) f.3.same }; refers = f.4 })
  reachable_found s (through o q path h f) =
      led_to o (reachable_found o h) (record {
        at = f.0;
        to = f.1;
        is_at = record { location = f.2.location; is = f.2.is; site = ap (λ z. z.site) f.2.same };
        is_to = record { location = f.3.location; is = f.3.is; site = ap (λ z. z.site) f.3.same };
        refers = f.4;
      })
