-- What is found from the starts is exactly what escapes.
use Rattle.std.proofs.Common.{◌≡◌, ℕ, ◌<◌, Bool, true, List, [], length, refl, sym, ap, ◌∙◌, inl, inr, arith, subst}
use Rattle.argot_links.specs.Members.{has as contains}
use Rattle.argot_plain.specs.Code.{Code}
use Rattle.argot_plain.specs.Lists.{In}
use Rattle.argot_plain.specs.Nodes.{Mark, HasLeaf}
use Rattle.argot_plain.specs.WellFormed.{WellFormed}
use Rattle.argot_facts.specs.Escapes.{EscapesBy, by_variable, by_go, by_location}
use Rattle.argot_facts.specs.Exact.{ArePoints, AreEscaping, AreEscapingBy}
use Rattle.argot_facts.specs.Handed.{FactsOf, IsLocated}
use Rattle.argot_facts.specs.Marked.{IsSet}
use Rattle.argot_facts.specs.Numbers.{locations_of}
use Rattle.argot_facts.specs.Pointing.{Pointing, FitsPoints, IsPlaceOf}
use Rattle.argot_facts.specs.Refers.{loc, Holds}
use Rattle.argot_facts.proofs.Growing.{escapes_grows}
use Rattle.argot_facts.proofs.Handed.{facts_hold, holds_facts}
use Rattle.argot_facts.proofs.Listed.{in_of_get, get_at, get_within}
use Rattle.argot_facts.proofs.Located.{locations_are}
use Rattle.argot_facts.proofs.Marked.{nodes_are}
use Rattle.argot_escape.specs.Flooding.{Finds, IsReady, LeadsTo, FunctionsLeadTo, IsVariable, FoundBy, at_start, led_to, AreLed, AreSet}
use Rattle.argot_escape.specs.declared.found.Found.{Found}
use Rattle.argot_escape.proofs.Finding.{ready_on}

module _ (p : Code) (x : Pointing) (wf : WellFormed p) (fits : FitsPoints p x) where
  located : (s y : ℕ) (h : IsPlaceOf x.locations s y) → IsLocated x.locations y (loc s h.location.path)
  located s y h = record { location = h.location; is = h.is; same = ap (λ z. loc z h.location.path) h.site }

  place_of_site : (s y : ℕ) (h : IsPlaceOf x.locations s y) → s < length p.sites
  place_of_site s y h =
      let m : In h.location (locations_of p) = subst (In h.location) fits.locations (in_of_get x.locations y h.location h.is) in
      let i = ((locations_are p).each h.location).0 m in
      let l = i.site in
      let e = h.site in
      omega arith

  -- what a Go of a live function hands on escapes
  go_escapes : (m : ℕ) → FunctionsLeadTo p x x.live m → EscapesBy p (FactsOf p x) m
  go_escapes m h =
      let f = h.2 in
      let n = f.leads.leads in
      let r = n.leads in
      let k = ((nodes_are p wf).each n.node).0 (subst (In n.node) fits.nodes (in_of_get x.nodes n.number n.node n.is)) in
      let a : Mark = k.0 in
      let i : a.place ≡ f.place = sym k.1.place ∙ n.place in
      let leaf : HasLeaf p f.place n.node.index n.node.leaf a.leaf =
      subst (λ z. HasLeaf p z n.node.index n.node.leaf a.leaf) i (subst (λ z. HasLeaf p a.place z n.node.leaf a.leaf) (sym k.1.index) k.1.has) in
      by_go f.place n.node.index a.leaf r.is_to.location.path f.leads.callee f.leads.args (record { function = h.0; is_in = f.inside; is_live = h.1 }) f.leads.at
      (n.number, r.to, record { node = n.node; is = n.is; marked = record { place = n.place; index = refl; has = leaf } }, located m r.to r.is_to, r.refers)

  variable_escapes : (m : ℕ) → IsVariable p.globals m → EscapesBy p (FactsOf p x) m
  variable_escapes m l =
      let g = get_at p.globals m l in
      let e : g.0.2 ≡ m = wf.global_sites.site m g.0.0 g.0.1 g.0.2 g.1 in
      subst (EscapesBy p (FactsOf p x)) e (by_variable m g.0.0 g.0.1 g.1)

  led_escapes : (s m : ℕ) → EscapesBy p (FactsOf p x) s → LeadsTo x s m → EscapesBy p (FactsOf p x) m
  led_escapes s m e h = by_location s h.is_at.location.path h.is_to.location.path e (h.at, h.to, located s h.at h.is_at, located m h.to h.is_to, h.refers)

  module _ (zero one two : Found) (count : length zero.flags.items ≡ length p.sites) (size : zero.waiting.size ≡ length p.sites) (none : (m : ℕ) → IsSet zero.flags.items m → ⊥)
      (v : Finds (IsVariable p.globals) zero one) where
    ready_none : IsReady x.locations zero
    ready_none = record { sites = λ s y h. let l = place_of_site s y h in omega arith; size = size ∙ sym count }

    pub ready_one : IsReady x.locations one
    ready_one = ready_on x.locations (IsVariable p.globals) zero one v ready_none

    module _ (w : Finds (FunctionsLeadTo p x x.live) one two) where
      pub ready_two : IsReady x.locations two
      ready_two = ready_on x.locations (FunctionsLeadTo p x x.live) one two w ready_one

      pub led_two : AreLed x two
      led_two s m set leads = elim (w.fresh s set) [
        | inl t ↦ elim (v.fresh s t) [ inl z ↦ absurd (none s z) | inr u ↦ inr (w.still s u) ]
        | inr u ↦ inr u
      ]

      pub set_two : zero.waiting.items ≡ [] → AreSet two
      set_two empty s u = elim (w.set s u) [
        | inl t ↦ elim (v.set s t) [ inl z ↦ (let y : contains [] s ≡ true = subst (λ xs. contains xs s ≡ true) empty z in absurd cc) | inr y ↦ w.kept s y ]
        | inr y ↦ y
      ]

      start_escapes : (m : ℕ) → IsSet two.flags.items m → EscapesBy p (FactsOf p x) m
      start_escapes m set = elim (w.only m set) [
        | inl t ↦ elim (v.only m t) [ inl z ↦ absurd (none m z) | inr y ↦ variable_escapes m y ]
        | inr y ↦ go_escapes m y
      ]

      found_escapes : (m : ℕ) → FoundBy x (IsSet two.flags.items) m → EscapesBy p (FactsOf p x) m
      found_escapes m (at_start set) = start_escapes m set
      found_escapes m (led_to s h l) = led_escapes s m (found_escapes s h) l

      module _ (three : Found) (kept : (m : ℕ) → IsSet two.flags.items m → IsSet three.flags.items m)
          (closed : (s m : ℕ) → IsSet three.flags.items s → LeadsTo x s m → IsSet three.flags.items m) where
        escape_found : {s : ℕ} → EscapesBy p (FactsOf p x) s → IsSet three.flags.items s
        escape_found {s = s} (by_variable k ident at e) =
            let z = wf.global_sites.site k ident at s e in
            let l = get_within p.globals k (ident, at, s) e in
            kept s (w.kept s (v.there s (omega arith)))
        escape_found {s = s} (by_go i k q path callee args live at f) =
            kept s (w.there s (
              live.function,
              live.is_live,
              record {
                place = i;
                inside = live.is_in;
                leads = record {
                  callee = callee;
                  args = args;
                  at = at;
                  leads = record {
                    number = f.0;
                    node = f.2.node;
                    is = f.2.is;
                    place = f.2.marked.place;
                    leads = record { to = f.1; is_to = record { location = f.3.location; is = f.3.is; site = ap (λ z. z.site) f.3.same }; refers = f.4 };
                  };
                };
              },
            ))
        escape_found {s = s} (by_location o q path e f) =
            closed o s (escape_found e) (record {
              at = f.0;
              to = f.1;
              is_at = record { location = f.2.location; is = f.2.is; site = ap (λ z. z.site) f.2.same };
              is_to = record { location = f.3.location; is = f.3.is; site = ap (λ z. z.site) f.3.same };
              refers = f.4;
            })

        pub exactly : length three.flags.items ≡ length two.flags.items → ((m : ℕ) → IsSet three.flags.items m → FoundBy x (IsSet two.flags.items) m) → AreEscapingBy p (FactsOf p x) three.flags.items
        exactly same only = record {
          count = same ∙ w.count ∙ v.count ∙ count;
          each = λ s l. ((λ set. found_escapes s (only s set)), λ e. escape_found e);
        }

-- where the tables are exact, by the program's own facts
pub exact_escaping : (p : Code) (x : Pointing) (wf : WellFormed p) (bs : List Bool) → ArePoints p x → AreEscapingBy p (FactsOf p x) bs → AreEscaping p bs
exact_escaping p x wf bs ex h = record {
  count = h.count;
  each = λ s l. ((λ set. escapes_grows p (FactsOf p x) (Holds p) (facts_hold p x wf ex) ((h.each s l).0 set)), λ e. (h.each s l).1 (escapes_grows p (Holds p) (FactsOf p x) (holds_facts p x wf ex) e));
}
