-- What rules store, by tables, is what is written.
use Rattle.std.proofs.Common.{◌≡◌, ℕ, zero, suc, ◌<◌, true, List, [], ◌∷◌, ◌++◌, Some, refl, sym, ap, ◌∙◌, subst}
use Rattle.std.specs.Prelude.{slice_get, length}
use Rattle.argot_links.specs.Table.{has, row}
use Rattle.argot_plain.specs.Code.{Code, IsAt, IsIn, leaves}
use Rattle.argot_plain.specs.Lists.{In, here}
use Rattle.argot_plain.specs.Machine.{is_path_of}
use Rattle.argot_plain.specs.Nodes.{Mark, mark, HasLeaf}
use Rattle.argot_plain.specs.WellFormed.{WellFormed}
use Rattle.argot_plain.specs.declared.instructions.Kind.TheVariants.{Write, Grow}
use Rattle.argot_text.specs.declared.path.PathStep.{PathStep}
use Rattle.argot_text.specs.declared.path.PathStep.TheVariants.{Element}
use Rattle.argot_facts.specs.Edges.{WritesBy}
use Rattle.argot_facts.specs.Edges.WritesBy.{by_write as put_by_write, by_grow as put_by_grow}
use Rattle.argot_facts.specs.Exact.{AreDefs, IsLocation}
use Rattle.argot_facts.specs.Graphs.{IsMarked}
use Rattle.argot_facts.specs.Handed.{FactsOf}
use Rattle.argot_facts.specs.Numbers.{node, location, leaves_of}
use Rattle.argot_facts.specs.Pointing.{Pointing, FitsPoints}
use Rattle.argot_facts.specs.Reaching.{DefinedAt}
use Rattle.argot_facts.specs.Refers.{Location, loc, IsLive, NodeRefers, IsLivePlaceIn}
use Rattle.argot_facts.specs.declared.nodes.Node.{Node}
use Rattle.argot_facts.specs.declared.pointing.Loc.{Loc}
use Rattle.argot_facts.proofs.Listed.{number_of, in_of_get}
use Rattle.argot_facts.proofs.Located.{locations_are}
use Rattle.argot_facts.proofs.Marked.{register_leaves}
use Rattle.argot_facts.proofs.Ordered.{same_node}
use Rattle.argot_facts.proofs.Rowed.{has_row, row_has}
use Rattle.argot_points_rules.specs.Column.{owned, rules_of}
use Rattle.argot_points_rules.specs.declared.rules.Owned.{Owned}
use Rattle.argot_points_rules.specs.declared.rules.Rule.{Rule}
use Rattle.argot_points_rules.specs.declared.rules.Rule.TheVariants.{Store}
use Rattle.argot_points.proofs.LeafOf.{node_leaf, definition_leaf}
use Rattle.argot_graph_edges.specs.Accessing.{IsMovedTo, NodeAccesses, Stores, Written}
use Rattle.argot_graph_edges.proofs.Storing.{IsStoring, by_write, by_grow, AsStore, stores_only, stores_all}

first_alone : (a : ℕ) (qs : List (List PathStep)) → qs ≡ [] ∷ [] → slice_get qs a ≡ Some [] → a ≡ 0
first_alone zero qs e g = refl
first_alone (suc a) qs e g = let z = subst (λ xs. slice_get xs (suc a) ≡ Some []) e g in absurd cc

module _ (p : Code) (x : Pointing) (wf : WellFormed p) (fits : FitsPoints p x) (ds : List (ℕ × ℕ × ℕ)) (exact : AreDefs p ds) where
  -- a location that the tables have is one of the program
  pub is_location : (y : ℕ) (l : Loc) → slice_get x.locations y ≡ Some l → IsLocation p l
  is_location y l g = ((locations_are p).each l).0 (subst (In l) fits.locations (in_of_get x.locations y l g))

  -- and each of those has a number
  pub located : (s : ℕ) (q : List PathStep) → s < length p.sites → is_path_of p s q ≡ true → (z : ℕ) × (slice_get x.locations z ≡ Some (location s q))
  located s q low ok =
      let m = ((locations_are p).each (location s q)).1 (record { site = low; path = ok }) in
      number_of (location s q) x.locations (subst (In (location s q)) (sym fits.locations) m)

  -- a location that is y moved along the path: what y is, and that the other is one of the program
  pub moved_is : (y z : ℕ) (q : List PathStep) (l : Loc) → slice_get x.locations z ≡ Some l → (m : IsMovedTo x.locations y q z) → (m.from.site ≡ l.site) × (m.from.path ++ q ≡ l.path) × (is_path_of p m.from.site (m.from.path ++ q) ≡ true)
  moved_is y z q l g m =
      let e : Some m.to ≡ Some l = sym m.at ∙ g in
      let f : m.to ≡ l = cc in
      let ok = (is_location z m.to m.at).path in
      (sym m.site ∙ ap (λ (w : Loc). w.site) f, sym m.along ∙ ap (λ (w : Loc). w.path) f, subst (λ w. is_path_of p w (m.from.path ++ q) ≡ true) m.site (subst (λ w. is_path_of p m.to.site w ≡ true) m.along ok))

  -- what a node refers to is a fact
  pub refers_fact : (n y : ℕ) (a : Node) (named : Mark) (l : Loc) → slice_get x.nodes n ≡ Some a → IsMarked p a named → slice_get x.locations y ≡ Some l → In y (row x.rows n) → FactsOf p x (NodeRefers named (loc l.site l.path))
  refers_fact n y a named l at marked is m = (n, y, record { node = a; is = at; marked = marked }, record { location = l; is = is; same = refl }, row_has x.rows n y m)

  abbrev IsWritten : ℕ → Loc → Type 0
  IsWritten n l = (a : Node) × (m : Mark) × (slice_get x.nodes n ≡ Some a) × IsMarked p a m × WritesBy p (DefinedAt p) (FactsOf p x) m l.site l.path

  store_is : (z n h : ℕ) (l : Loc) (at : Node) (path : List PathStep) (source : Node) → slice_get x.locations z ≡ Some l → In h x.live → NodeAccesses x at path source (z, n) → IsStoring p h at path source → IsWritten n l
  store_is z n h l _ _ _ g live s (by_write {d = d} {j = j} {i = i} {a = a} {q = q} ref from inside at def whole leaf) =
      let place : IsLivePlaceIn p (FactsOf p x) i = record { function = h; is_in = inside; is_live = live } in
      let moved = s.accesses.2.0 in
      let t = moved_is s.accesses.0 z q l g moved in
      let fact = refers_fact s.by s.accesses.0 (node d j 0) (mark d j []) moved.from s.is_by (record { place = refl; index = refl; has = whole }) moved.is s.accesses.1 in
      let w : WritesBy p (DefinedAt p) (FactsOf p x) (mark i 0 q) moved.from.site (moved.from.path ++ q) = put_by_write d j ref from place at def fact t.2 in (
        node i 0 a,
        mark i 0 q,
        ap (slice_get x.nodes) s.accesses.2.1 ∙ s.is,
        record { place = refl; index = refl; has = leaf },
        subst (λ v. WritesBy p (DefinedAt p) (FactsOf p x) (mark i 0 q) l.site v) t.1 (subst (λ v. WritesBy p (DefinedAt p) (FactsOf p x) (mark i 0 q) v (moved.from.path ++ q)) t.0 w),
      )
  store_is z n h l _ _ _ g live s (by_grow {i = i} {a = a} {q = q} to ref items inside at whole leaf) =
      let place : IsLivePlaceIn p (FactsOf p x) i = record { function = h; is_in = inside; is_live = live } in
      let moved = s.accesses.2.0 in
      let t = moved_is s.accesses.0 z (Element ∷ q) l g moved in
      let fact = refers_fact s.by s.accesses.0 (node i 0 0) (mark i 0 []) moved.from s.is_by (record { place = refl; index = refl; has = whole }) moved.is s.accesses.1 in
      let w : WritesBy p (DefinedAt p) (FactsOf p x) (mark i 1 q) moved.from.site (moved.from.path ++ Element ∷ q) = put_by_grow to ref items place at fact t.2 in (
        node i 1 a,
        mark i 1 q,
        ap (slice_get x.nodes) s.accesses.2.1 ∙ s.is,
        record { place = refl; index = refl; has = leaf },
        subst (λ v. WritesBy p (DefinedAt p) (FactsOf p x) (mark i 1 q) l.site v) t.1 (subst (λ v. WritesBy p (DefinedAt p) (FactsOf p x) (mark i 1 q) v (moved.from.path ++ Element ∷ q)) t.0 w),
      )

  by_rule : (z n h : ℕ) (l : Loc) (r : Rule) → slice_get x.locations z ≡ Some l → In h x.live → Stores x r (z, n) → AsStore p h r → IsWritten n l
  by_rule z n h l (Store at path source) g live s store = store_is z n h l at path source g live s store
  by_rule z n h l _ g live s store = elim s [ ]

  pub written_is : (z n : ℕ) (l : Loc) → slice_get x.locations z ≡ Some l → Written x (rules_of p ds) (z, n) → IsWritten n l
  written_is z n l g (o, m, (live, s)) = by_rule z n o.function l o.rule g live s (stores_only p wf ds exact o m)

  -- a store of a live function by a node of this mark is in the tables
  stored : (n h s : ℕ) (at source : Node) (base q : List PathStep) (named : Mark) → In h x.live → IsStoring p h at q source → slice_get x.nodes n ≡ Some source
      → FactsOf p x (NodeRefers named (loc s base)) → ((a : Node) → IsMarked p a named → a ≡ at) → is_path_of p s (base ++ q) ≡ true
      → (z : ℕ) × (l : Loc) × (slice_get x.locations z ≡ Some l) × (l.site ≡ s) × (l.path ≡ base ++ q) × Written x (rules_of p ds) (z, n)
  stored n h s at source base q named live store is (by, y, number, place, there) alone ok =
      let site : place.location.site ≡ s = ap (λ (l : Location). l.site) place.same in
      let path : place.location.path ≡ base = ap (λ (l : Location). l.path) place.same in
      let low = subst (λ k. k < length p.sites) site (is_location y place.location place.is).site in
      let z = located s (base ++ q) low ok in
      let moved : IsMovedTo x.locations y q z.0 = record { from = place.location; is = place.is; to = location s (base ++ q); at = z.1; site = sym site; along = ap (λ b. b ++ q) (sym path) } in (
        z.0,
        location s (base ++ q),
        z.1,
        refl,
        refl,
        (
          owned h (Store at q source),
          stores_all p wf ds exact h at q source store,
          (
            live,
            record {
              by = by;
              number = n;
              is_by = number.is ∙ ap Some (alone number.node number.marked);
              is = is;
              accesses = (y, has_row x.rows by y there, (moved, refl));
            },
          ),
        ),
      )

  pub write_is : (m : Mark) (s : ℕ) (path : List PathStep) → WritesBy p (DefinedAt p) (FactsOf p x) m s path → (a : Node) (n : ℕ) → IsMarked p a m → slice_get x.nodes n ≡ Some a
      → (z : ℕ) × (l : Loc) × (slice_get x.locations z ≡ Some l) × (l.site ≡ s) × (l.path ≡ path) × Written x (rules_of p ds) (z, n)
  write_is _ s _ (put_by_write {i = i} {base = base} {q = q} d j ref from live at def refers ok) a n marked is =
      let h = live.function in
      let fn = live.is_in.fn in
      let one : (b : ℕ) → HasLeaf p d j b [] → b ≡ 0 = λ b leaf.
      first_alone b (leaves_of fn ref) (sym (register_leaves p h fn ref live.is_in.is) ∙ wf.references.each i h ref (Write ref from) live.is_in at (here refl)) (definition_leaf p wf h fn live.is_in.is d j ref i b [] def live.is_in leaf) in
      let number = refers.2 in
      let whole = subst (λ b. HasLeaf p d j b []) (one number.node.leaf number.marked.has) number.marked.has in
      stored n h s (node d j 0) (node i 0 a.leaf) base q (mark d j []) live.is_live (by_write ref from live.is_in at def whole marked.has)
      (is ∙ ap Some (same_node a (node i 0 a.leaf) marked.place marked.index refl)) refers
      (λ b m. same_node b (node d j 0) m.place m.index (one b.leaf m.has)) ok
  write_is _ s _ (put_by_grow {i = i} {base = base} {q = q} to ref items live at refers ok) a n marked is =
      let h = live.function in
      let fn = live.is_in.fn in
      let one : (b : ℕ) → HasLeaf p i 0 b [] → b ≡ 0 = λ b leaf.
      first_alone b (leaves_of fn to) (sym (register_leaves p h fn to live.is_in.is) ∙ wf.references.each i h to (Grow to ref items) live.is_in at (here refl)) (node_leaf p wf h fn live.is_in.is i 0 b to [] (Grow to ref items) live.is_in at refl leaf) in
      let number = refers.2 in
      let whole = subst (λ b. HasLeaf p i 0 b []) (one number.node.leaf number.marked.has) number.marked.has in
      stored n h s (node i 0 0) (node i 1 a.leaf) base (Element ∷ q) (mark i 0 []) live.is_live (by_grow to ref items live.is_in at whole marked.has)
      (is ∙ ap Some (same_node a (node i 1 a.leaf) marked.place marked.index refl)) refers
      (λ b m. same_node b (node i 0 0) m.place m.index (one b.leaf m.has)) ok
