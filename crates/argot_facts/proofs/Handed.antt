-- Tables that are exactly the program's have its own facts.
use Rattle.std.proofs.Common.{◌≡◌, ℕ, ◌+◌, true, List, Some, refl, ap, ◌∙◌, inl, inr, arith, subst}
use Rattle.std.specs.Prelude.{slice_get, length}
use Rattle.argot_links.specs.Table.{has}
use Rattle.argot_plain.specs.Code.{Code}
use Rattle.argot_plain.specs.Lists.{In}
use Rattle.argot_plain.specs.Nodes.{Mark}
use Rattle.argot_plain.specs.WellFormed.{WellFormed}
use Rattle.argot_facts.specs.Exact.{ArePoints, SpotRefers, by_node, by_place, place_of}
use Rattle.argot_facts.specs.Graphs.{IsMarked}
use Rattle.argot_facts.specs.Handed.{FactsOf}
use Rattle.argot_facts.specs.Numbers.{node, location}
use Rattle.argot_facts.specs.Pointing.{Pointing, of_nodes, of_places, refers, place_row}
use Rattle.argot_facts.specs.Refers.{Location, Fact, Holds, IsLive, Targets, NodeRefers, PlaceRefers}
use Rattle.argot_facts.specs.declared.nodes.Node.{Node}
use Rattle.argot_facts.specs.declared.pointing.Loc.{Loc}
use Rattle.argot_facts.specs.declared.pointing.Spot.{Spot}
use Rattle.argot_facts.specs.declared.pointing.Spot.TheVariants as spot
use Rattle.argot_facts.proofs.Calls.{taken_once, target_taken}
use Rattle.argot_facts.proofs.Listed.{In-append, In-left, In-right}
use Rattle.argot_facts.proofs.Marked.{one_mark}
use Rattle.argot_facts.proofs.Standing.{stands}
use Rattle.argot_facts.proofs.Rowed.{IsIn, of_nodes_is, is_of_nodes, of_places_is, is_of_places}

pub same_loc : (l m : Loc) → place_of l ≡ place_of m → l ≡ m
same_loc l m e = ap (λ (x : Location). location x.site x.path) e

module _ (x : Pointing) where
  abbrev node_list : List (Spot × Loc)
  node_list = of_nodes x.locations x.rows 0 x.nodes

  abbrev place_list : List (Spot × Loc)
  place_list = of_places x.locations x.rows (length x.nodes) x.locations

  -- a node with a location stands in the row of the node
  pub node_in : (a : Node) (l : Loc) → In (spot.Node a, l) (refers x) → (n : ℕ) × (slice_get x.nodes n ≡ Some a) × IsIn x.locations x.rows l n
  node_in a l m = elim (In-append (spot.Node a, l) node_list place_list m) [
    | inl h ↦
        let y = of_nodes_is x.locations x.rows (spot.Node a) l 0 x.nodes h in
        let e : y.1 ≡ a = (let f = y.3 in cc) in
        let z : 0 + y.0 ≡ y.0 = omega arith in
        (y.0, y.2 ∙ ap Some e, subst (IsIn x.locations x.rows l) z y.4)
    | inr h ↦ let y = of_places_is x.locations x.rows (spot.Node a) l (length x.nodes) x.locations h in let f = y.3 in absurd cc
  ]

  pub in_node : (a : Node) (l : Loc) (n : ℕ) → slice_get x.nodes n ≡ Some a → IsIn x.locations x.rows l n → In (spot.Node a, l) (refers x)
  in_node a l n is y =
      let z : n ≡ 0 + n = omega arith in
      In-left (spot.Node a, l) node_list place_list (is_of_nodes x.locations x.rows l 0 n a x.nodes is (subst (IsIn x.locations x.rows l) z y))

  pub place_in : (k l : Loc) → In (spot.Loc k, l) (refers x) → (z : ℕ) × (slice_get x.locations z ≡ Some k) × IsIn x.locations x.rows l (place_row x z)
  place_in k l m = elim (In-append (spot.Loc k, l) node_list place_list m) [
    | inl h ↦ let y = of_nodes_is x.locations x.rows (spot.Loc k) l 0 x.nodes h in let f = y.3 in absurd cc
    | inr h ↦
        let y = of_places_is x.locations x.rows (spot.Loc k) l (length x.nodes) x.locations h in
        let e : y.1 ≡ k = (let f = y.3 in cc) in
        (y.0, y.2 ∙ ap Some e, y.4)
  ]

  pub in_place : (k l : Loc) (z : ℕ) → slice_get x.locations z ≡ Some k → IsIn x.locations x.rows l (place_row x z) → In (spot.Loc k, l) (refers x)
  in_place k l z is y = In-right (spot.Loc k, l) node_list place_list (is_of_places x.locations x.rows l (length x.nodes) z k x.locations is y)

  -- the row has the location of this number
  in_row : (l : Loc) (y r : ℕ) → slice_get x.locations y ≡ Some l → has x.rows r y ≡ true → IsIn x.locations x.rows l r
  in_row l y r is h = record { column = y; at = is; has = h }

module _ (p : Code) (x : Pointing) (wf : WellFormed p) (exact : ArePoints p x) where
  node_refers : (a : Node) (l : Loc) → SpotRefers p (spot.Node a) l → (m : Mark) × IsMarked p a m × Holds p (NodeRefers m (place_of l))
  node_refers a l (by_node m marked h) = (m, marked, h)

  place_refers : (k l : Loc) → SpotRefers p (spot.Loc k) l → Holds p (PlaceRefers (place_of k) (place_of l))
  place_refers k l (by_place h) = h

  -- what the tables have holds
  pub facts_hold : (f : Fact) → FactsOf p x f → Holds p f
  facts_hold (IsLive g) m = (exact.live g).0 m
  facts_hold (Targets i g takes) m =
      let t = (exact.targets.each i g).0 m.0 in
      subst (λ b. Holds p (Targets i g b)) (taken_once p i g t.0 takes (target_taken p wf t.1) m.1) t.1
  facts_hold (NodeRefers m to) h =
      let n = h.0 in let y = h.1 in let a = h.2 in let l = h.3 in
      let s = node_refers a.node l.location ((exact.refers (spot.Node a.node) l.location).0 (in_node x a.node l.location n a.is (in_row x l.location y n l.is h.4))) in
      let e = one_mark p wf a.node s.0 m s.1 a.marked in
      subst (λ z. Holds p (NodeRefers z to)) e (subst (λ z. Holds p (NodeRefers s.0 z)) l.same s.2)
  facts_hold (PlaceRefers at to) h =
      let z = h.0 in let y = h.1 in let k = h.2 in let l = h.3 in
      let s = place_refers k.location l.location ((exact.refers (spot.Loc k.location) l.location).0 (in_place x k.location l.location z k.is (in_row x l.location y (place_row x z) l.is h.4))) in
      subst (λ a. Holds p (PlaceRefers a to)) k.same (subst (λ a. Holds p (PlaceRefers (place_of k.location) a)) l.same s)

  -- what holds, the tables have
  pub holds_facts : (f : Fact) → Holds p f → FactsOf p x f
  holds_facts (IsLive g) h = (exact.live g).1 h
  holds_facts (Targets i g takes) h = ((exact.targets.each i g).1 (takes, h), target_taken p wf h)
  holds_facts (NodeRefers m to) h =
      let s = stands p wf h in
      let a : Node = node m.place m.index s.0.number in
      let l : Loc = location to.site to.path in
      let marked : IsMarked p a m = record { place = refl; index = refl; has = s.0.has } in
      let r = node_in x a l ((exact.refers (spot.Node a) l).1 (by_node m marked h)) in
      (r.0, r.2.column, record { node = a; is = r.1; marked = marked }, record { location = l; is = r.2.at; same = refl }, r.2.has)
  holds_facts (PlaceRefers at to) h =
      let k : Loc = location at.site at.path in
      let l : Loc = location to.site to.path in
      let r = place_in x k l ((exact.refers (spot.Loc k) l).1 (by_place h)) in
      (r.0, r.2.column, record { location = k; is = r.1; same = refl }, record { location = l; is = r.2.at; same = refl }, r.2.has)
