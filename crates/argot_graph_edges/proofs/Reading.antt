-- What the loads of live functions read, by tables, is what is read by the facts of these tables.
use Rattle.std.proofs.Common.{◌≡◌, ℕ, zero, suc, ◌<◌, true, List, [], ◌∷◌, ◌++◌, Some, refl, sym, ap, ◌∙◌, subst}
use Rattle.std.specs.Prelude.{slice_get, length}
use Rattle.argot_plain.specs.Code.{Code, IsAt, IsIn}
use Rattle.argot_plain.specs.Lists.{In, here, there}
use Rattle.argot_plain.specs.Machine.{is_path_of}
use Rattle.argot_plain.specs.Nodes.{Mark, mark, HasLeaf}
use Rattle.argot_plain.specs.WellFormed.{WellFormed, reference_registers}
use Rattle.argot_plain.specs.declared.instructions.Kind.{Kind}
use Rattle.argot_plain.specs.declared.instructions.Kind.TheVariants.{Read, Grow}
use Rattle.argot_text.specs.declared.path.PathStep.{PathStep}
use Rattle.argot_text.specs.declared.path.PathStep.TheVariants.{Element}
use Rattle.argot_facts.specs.Edges.{IsReadBy}
use Rattle.argot_facts.specs.Edges.IsReadBy.{by_read as reads_by_read, by_grow as reads_by_grow}
use Rattle.argot_facts.specs.Exact.{AreDefs, IsLocation}
use Rattle.argot_facts.specs.Graphs.{IsMarked}
use Rattle.argot_facts.specs.Handed.{FactsOf}
use Rattle.argot_facts.specs.Numbers.{node, location, leaves_of}
use Rattle.argot_facts.specs.Pointing.{Pointing, FitsPoints}
use Rattle.argot_facts.specs.Reaching.{DefinedAt}
use Rattle.argot_facts.specs.Refers.{Location, loc, NodeRefers, IsLivePlaceIn}
use Rattle.argot_facts.specs.declared.nodes.Node.{Node}
use Rattle.argot_facts.specs.declared.pointing.Loc.{Loc}
use Rattle.argot_facts.proofs.Listed.{number_of, in_of_get}
use Rattle.argot_facts.proofs.Located.{locations_are}
use Rattle.argot_facts.proofs.Marked.{register_leaves}
use Rattle.argot_facts.proofs.Ordered.{same_node}
use Rattle.argot_facts.proofs.Rowed.{has_row, row_has}
use Rattle.argot_points_rules.specs.Column.{owned, rules_of}
use Rattle.argot_points_rules.specs.declared.rules.Rule.{Rule}
use Rattle.argot_points_rules.specs.declared.rules.Rule.TheVariants.{Load}
use Rattle.argot_points.proofs.LeafOf.{definition_leaf}
use Rattle.argot_graph_edges.specs.Accessing.{IsMovedTo, RowAccesses, NodeAccesses, Loads, Readable}
use Rattle.argot_graph_edges.proofs.Loading.{IsLoading, by_read, by_grow_read, AsLoad, loads_only, loads_all}

first_alone : (a : ℕ) (qs : List (List PathStep)) → qs ≡ [] ∷ [] → slice_get qs a ≡ Some [] → a ≡ 0
first_alone zero qs e g = refl
first_alone (suc a) qs e g = let z = subst (λ xs. slice_get xs (suc a) ≡ Some []) e g in absurd cc

module _ (p : Code) (x : Pointing) (wf : WellFormed p) (fits : FitsPoints p x) (ds : List (ℕ × ℕ × ℕ)) (exact : AreDefs p ds) where
  abbrev Reads : Mark → ℕ → List PathStep → Type 0
  Reads m s path = IsReadBy p (DefinedAt p) (FactsOf p x) m s path

  -- the node number n reads the location
  abbrev ReadAs : ℕ → Loc → Type 0
  ReadAs n l = (a : Node) × (m : Mark) × (slice_get x.nodes n ≡ Some a) × IsMarked p a m × Reads m l.site l.path

  -- a location that the tables have is one of the program
  is_location : (y : ℕ) (l : Loc) → slice_get x.locations y ≡ Some l → IsLocation p l
  is_location y l g = ((locations_are p).each l).0 (subst (In l) fits.locations (in_of_get x.locations y l g))

  has_location : (s : ℕ) (q : List PathStep) → s < length p.sites → is_path_of p s q ≡ true → (z : ℕ) × (slice_get x.locations z ≡ Some (location s q))
  has_location s q low ok =
      let m = ((locations_are p).each (location s q)).1 (record { site = low; path = ok }) in
      number_of (location s q) x.locations (subst (In (location s q)) (sym fits.locations) m)

  module _ (z n : ℕ) (l : Loc) (there_is : slice_get x.locations z ≡ Some l) where
    -- what the first node refers to, moved along a path, is read by the second
    read_of : (by number : ℕ) (b a : Node) (from named : Mark) (q : List PathStep) → slice_get x.nodes by ≡ Some b → IsMarked p b from → slice_get x.nodes number ≡ Some a → IsMarked p a named
        → ((f : Loc) → FactsOf p x (NodeRefers from (loc f.site f.path)) → is_path_of p f.site (f.path ++ q) ≡ true → Reads named f.site (f.path ++ q)) → RowAccesses x by q number (z, n) → ReadAs n l
    read_of by number b a from named q is_by marked_by is marked reads (y, m, (moved, same)) =
        let f = moved.from in
        let e : Some moved.to ≡ Some l = sym moved.at ∙ there_is in
        let to : moved.to ≡ l = cc in
        let site : f.site ≡ l.site = sym moved.site ∙ ap (λ (v : Loc). v.site) to in
        let path : f.path ++ q ≡ l.path = sym moved.along ∙ ap (λ (v : Loc). v.path) to in
        let ok = subst (λ s. is_path_of p s (f.path ++ q) ≡ true) (sym site) (subst (λ w. is_path_of p l.site w ≡ true) (sym path) (is_location z l there_is).path) in
        let refers : FactsOf p x (NodeRefers from (loc f.site f.path)) = (by, y, record { node = b; is = is_by; marked = marked_by }, record { location = f; is = moved.is; same = refl }, row_has x.rows by y m) in
        (a, named, ap (slice_get x.nodes) same ∙ is, marked, subst (λ s. Reads named s l.path) site (subst (Reads named f.site) path (reads f refers ok)))

    load_read : (h : ℕ) (at : Node) (path : List PathStep) (to : Node) → In h x.live → NodeAccesses x at path to (z, n) → IsLoading p h at path to → ReadAs n l
    load_read h _ _ _ live s (by_read {d = d} {j = j} {i = i} {a = a} {q = q} to ref qs inside at def whole leaf) =
        let place : IsLivePlaceIn p (FactsOf p x) i = record { function = h; is_in = inside; is_live = live } in
        read_of s.by s.number (node d j 0) (node i 0 a) (mark d j []) (mark i 0 q) q s.is_by (record { place = refl; index = refl; has = whole }) s.is (record { place = refl; index = refl; has = leaf })
        (λ f refers ok. reads_by_read d j to ref qs place at def refers ok) s.accesses
    load_read h _ _ _ live s (by_grow_read {d = d} {j = j} {i = i} {a = a} {q = q} to ref items inside at def whole leaf) =
        let place : IsLivePlaceIn p (FactsOf p x) i = record { function = h; is_in = inside; is_live = live } in
        read_of s.by s.number (node d j 0) (node i 2 a) (mark d j []) (mark i 2 q) (Element ∷ q) s.is_by (record { place = refl; index = refl; has = whole }) s.is (record { place = refl; index = refl; has = leaf })
        (λ f refers ok. reads_by_grow d j to ref items place at def refers ok) s.accesses

    rule_read : (h : ℕ) (r : Rule) → In h x.live → Loads x r (z, n) → AsLoad p h r → ReadAs n l
    rule_read h (Load to at path) live s loading = load_read h at path to live s loading
    rule_read h _ live s loading = elim s [ ]

    pub readable_is : Readable x (rules_of p ds) (z, n) → (a : Node) × (m : Mark) × (slice_get x.nodes n ≡ Some a) × IsMarked p a m × IsReadBy p (DefinedAt p) (FactsOf p x) m l.site l.path
    readable_is (o, m, (live, s)) = rule_read o.function o.rule live s (loads_only p wf ds exact o m)

  -- the location has a number with which the node number n is found
  abbrev Found : ℕ → ℕ → List PathStep → Type 0
  Found n s path = (z : ℕ) × (l : Loc) × (slice_get x.locations z ≡ Some l) × (l.site ≡ s) × (l.path ≡ path) × Readable x (rules_of p ds) (z, n)

  -- what the tables have of a load
  loaded : (h s n : ℕ) (at to : Node) (base q : List PathStep) (named : Mark) → In h x.live → IsLoading p h at q to → slice_get x.nodes n ≡ Some to
      → FactsOf p x (NodeRefers named (loc s base)) → ((b : Node) → IsMarked p b named → b ≡ at) → is_path_of p s (base ++ q) ≡ true → Found n s (base ++ q)
  loaded h s n at to base q named live load is (by, y, number, located, listed) alone ok =
      let site : located.location.site ≡ s = ap (λ (l : Location). l.site) located.same in
      let path : located.location.path ≡ base = ap (λ (l : Location). l.path) located.same in
      let low = is_location y located.location located.is in
      let at_z = has_location s (base ++ q) (subst (λ k. k < length p.sites) site low.site) ok in
      let moved : IsMovedTo x.locations y q at_z.0 = record { from = located.location; is = located.is; to = location s (base ++ q); at = at_z.1; site = sym site; along = ap (λ b. b ++ q) (sym path) } in
      let accesses : NodeAccesses x at q to (at_z.0, n) = record {
        by = by;
        number = n;
        is_by = number.is ∙ ap Some (alone number.node number.marked);
        is = is;
        accesses = (y, has_row x.rows by y listed, (moved, refl));
      } in
      (at_z.0, location s (base ++ q), at_z.1, refl, refl, (owned h (Load to at q), loads_all p wf ds exact h at q to load, (live, accesses)))

  -- a reference that reaches a place has one leaf
  one_leaf : (h i d j ref : ℕ) (kind : Kind) → IsIn p i h → IsAt p i kind → In ref (reference_registers kind) → DefinedAt p d j ref i → (b : ℕ) → HasLeaf p d j b [] → b ≡ 0
  one_leaf h i d j ref kind inside at m def b leaf =
      first_alone b (leaves_of inside.fn ref) (sym (register_leaves p h inside.fn ref inside.is) ∙ wf.references.each i h ref kind inside at m) (definition_leaf p wf h inside.fn inside.is d j ref i b [] def inside leaf)

  pub read_is : (m : Mark) (s : ℕ) (path : List PathStep) → IsReadBy p (DefinedAt p) (FactsOf p x) m s path → (a : Node) (n : ℕ) → IsMarked p a m → slice_get x.nodes n ≡ Some a
      → (z : ℕ) × (l : Loc) × (slice_get x.locations z ≡ Some l) × (l.site ≡ s) × (l.path ≡ path) × Readable x (rules_of p ds) (z, n)
  read_is _ s _ (reads_by_read {i = i} {base = base} {q = q} d j to ref qs live at def refers ok) a n marked is =
      let h = live.function in
      let one = one_leaf h i d j ref (Read to ref qs) live.is_in at (here refl) def in
      let whole = subst (λ b. HasLeaf p d j b []) (one refers.2.node.leaf refers.2.marked.has) refers.2.marked.has in
      loaded h s n (node d j 0) (node i 0 a.leaf) base q (mark d j []) live.is_live (by_read to ref qs live.is_in at def whole marked.has)
      (is ∙ ap Some (same_node a (node i 0 a.leaf) marked.place marked.index refl)) refers (λ b k. same_node b (node d j 0) k.place k.index (one b.leaf k.has)) ok
  read_is _ s _ (reads_by_grow {i = i} {base = base} {q = q} d j to ref items live at def refers ok) a n marked is =
      let h = live.function in
      let one = one_leaf h i d j ref (Grow to ref items) live.is_in at (there (here refl)) def in
      let whole = subst (λ b. HasLeaf p d j b []) (one refers.2.node.leaf refers.2.marked.has) refers.2.marked.has in
      loaded h s n (node d j 0) (node i 2 a.leaf) base (Element ∷ q) (mark d j []) live.is_live (by_grow_read to ref items live.is_in at def whole marked.has)
      (is ∙ ap Some (same_node a (node i 2 a.leaf) marked.place marked.index refl)) refers (λ b k. same_node b (node d j 0) k.place k.index (one b.leaf k.has)) ok
