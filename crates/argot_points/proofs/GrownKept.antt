-- Tables that are closed under the rules of a Grow have what these say.
use Rattle.std.proofs.Common.{◌≡◌, ℕ, true, List, [], ◌∷◌, ◌++◌, Some, refl, sym, ap, ◌∙◌, arith, subst}
use Rattle.std.specs.Prelude.{slice_get}
use Rattle.std.proofs.lemmas.Option.{slice_get_within}
use Rattle.argot_links.specs.Table.{has}
use Rattle.argot_plain.specs.Lists.{In, here, there, without_first}
use Rattle.argot_plain.specs.Code.{IsAt, IsIn, IsSiteOf, element_leaves}
use Rattle.argot_plain.specs.Machine.{is_path_of, element}
use Rattle.argot_plain.specs.Nodes.{Mark, mark, HasLeaf, of_items, of_elements}
use Rattle.argot_plain.specs.WellFormed.{WellFormed}
use Rattle.argot_plain.specs.declared.instructions.Kind.TheVariants.{Grow}
use Rattle.argot_plain.specs.declared.sites.Site.{Site}
use Rattle.argot_text.specs.declared.path.PathStep.{PathStep}
use Rattle.argot_text.specs.declared.path.PathStep.TheVariants.{Element}
use Rattle.argot_facts.specs.Exact.{AreDefs}
use Rattle.argot_facts.specs.Numbers.{node, nodes_of, locations_of, own_site, shape_at}
use Rattle.argot_facts.specs.Reaching.{DefinedAt}
use Rattle.argot_facts.specs.Refers.{Location, loc}
use Rattle.argot_facts.proofs.Marked.{own_is, own_there}
use Rattle.argot_facts.proofs.Listed.{number_of, get-map, in_of_get}
use Rattle.argot_points_rules.specs.Column.{owned, copies, value_copies, value_loads, value_stores, item_copies, definitions, grow_rules, rules_of}
use Rattle.argot_points_rules.specs.declared.rules.Owned.{Owned}
use Rattle.argot_points_rules.specs.declared.rules.Rule.TheVariants.{Put, Copy, Load, Store}
use Rattle.argot_points.specs.declared.system.System.{System}
use Rattle.argot_points.specs.declared.system.Tables.{Tables}
use Rattle.argot_points.specs.Solved.{AllDone}
use Rattle.argot_points.proofs.Each.{In-left, In-right, value_loads_have, value_stores_have, value_copies_have}
use Rattle.argot_points.proofs.LeafOf.{grown_leaf}
use Rattle.argot_points.proofs.Copied.{shape_is}
use Rattle.argot_points.proofs.Ruled.{HasNode, HasPlace, row_of, rule_kept}
use Rattle.argot_points.proofs.Kept.{put_kept, load_kept, store_kept, def_leaf, def_listed, own_leaf}

module _ (s : System) (t : Tables) (wf : WellFormed s.program.now) (nodes : s.nodes.items ≡ nodes_of s.program.now) (all : s.locations.items ≡ locations_of s.program.now)
    (ds : List (ℕ × ℕ × ℕ)) (exact : AreDefs s.program.now ds) (same : s.rules.items ≡ rules_of s.program.now ds) (done : AllDone s t)
    (h i : ℕ) (inside : IsIn s.program.now i h) (live : has t.live 0 h ≡ true) (to ref : ℕ) (items : List ℕ) (at : IsAt s.program.now i (Grow to ref items)) where
  abbrev Node : Mark → Location → Type 0
  Node m x = HasNode s t wf nodes all ds exact same done m x

  abbrev Place : Location → Location → Type 0
  Place y x = HasPlace s t wf nodes all ds exact same done y x

  -- the own site
  abbrev Own : ℕ → Type 0
  Own n = (site : Site) × IsSiteOf s.program.now i n site

  owned_site : (n : ℕ) × (own_site s.program.now i ≡ Some n) × Own n
  owned_site =
      let g = (wf.grow_site i to ref items at) in
      let m = own_there s.program.now i g.number g.one.site g.one.is in
      (m.0, m.1, own_is s.program.now i m.0 m.1)

  one_site : (n m : ℕ) → Own n → Own m → n ≡ m
  one_site n m a b = let one = (wf.grow_site i to ref items at).one in one.alone n a.0 a.1 ∙ sym (one.alone m b.0 b.1)

  -- where the pieces of the rules stand
  abbrev A : ℕ → List Owned
  A n = copies h (node i 0 0) 0 (definitions s.program.now inside.fn i ref ds)

  abbrev B : ℕ → List Owned
  B n = owned h (Put (node i 0 0) n) ∷ []

  abbrev C : ℕ → List Owned
  C n = value_loads h i 2 0 (shape_at s.program.now (Some n)) (definitions s.program.now inside.fn i ref ds)

  abbrev D : ℕ → List Owned
  D n = value_copies h i 1 0 (shape_at s.program.now (Some n)) ((i, 2) ∷ [])

  abbrev F : ℕ → List Owned
  F n = item_copies s.program.now inside.fn ds h i (shape_at s.program.now (Some n)) items

  abbrev G : ℕ → List Owned
  G n = value_stores h i 1 0 (shape_at s.program.now (Some n)) ((i, 0) ∷ [])

  listed : (n : ℕ) (o : Owned) → own_site s.program.now i ≡ Some n → In o (grow_rules s.program.now inside.fn ds h i ref items (Some n)) → In o (grow_rules s.program.now inside.fn ds h i ref items (own_site s.program.now i))
  listed n o e m = subst (λ v. In o (grow_rules s.program.now inside.fn ds h i ref items v)) (sym e) m

  pub fresh_kept : (n : ℕ) (site : Site) → IsSiteOf s.program.now i n site → Node (mark i 0 []) (loc n [])
  fresh_kept n site own =
      let w = owned_site in
      let e = one_site n w.0 (site, own) w.2 in
      let o = owned h (Put (node i 0 0) n) in
      let rule = listed n o (w.1 ∙ ap Some (sym e)) (In-left o ((((A n ++ B n) ++ C n) ++ D n) ++ F n) (G n) (In-left o (((A n ++ B n) ++ C n) ++ D n) (F n) (In-left o ((A n ++ B n) ++ C n) (D n) (In-left o (A n ++ B n) (C n) (In-right o (A n) (B n) (here refl)))))) in
      put_kept s t wf nodes all ds exact same done h i inside live (Grow to ref items) to n at refl (here refl) (slice_get_within s.program.now.sites n site own.is) rule

  -- a leaf of an element is one of the shape
  module _ (n : ℕ) (site : Site) (own : IsSiteOf s.program.now i n site) where
    in_shape : (a : ℕ) (q : List PathStep) → slice_get (element_leaves site) a ≡ Some q → slice_get (shape_at s.program.now (Some n)) a ≡ Some (Element ∷ q)
    in_shape a q e =
        let w = wf.grow_site i to ref items at in
        let m = w.one.alone n site own in
        let f : Some site ≡ Some w.one.site = sym own.is ∙ ap (slice_get s.program.now.sites) m ∙ w.one.is.is in
        let g : site ≡ w.one.site = cc in
        let x = get-map without_first site.shape a q e in
        let r = w.elements x.0 (subst (λ (y : Site). In x.0 y.shape) g (in_of_get site.shape a x.0 x.1)) in
        let z : q ≡ r.0 = x.2 ∙ ap without_first r.1 in
        ap (λ y. slice_get y a) (shape_is s.program.now wf ds h i inside.fn inside.is inside n site own.is) ∙ x.1 ∙ ap Some (r.1 ∙ ap (λ y. Element ∷ y) (sym z))

    own_number : own_site s.program.now i ≡ Some n
    own_number = let w = owned_site in w.1 ∙ ap Some (one_site w.0 n w.2 (site, own))

    pub read_kept : (d j target : ℕ) (base q : List PathStep) (x : Location) → DefinedAt s.program.now d j ref i → Node (mark d j []) (loc target base) → In q (element_leaves site) → Place (loc target (element base q)) x → Node (mark i 2 q) x
    read_kept d j target base q x def refers member place =
        let b = number_of q (element_leaves site) member in
        load_kept s t wf nodes all ds exact same done h i inside live (Grow to ref items) d j target 2 b.0 base (Element ∷ q) q x at (def_leaf s t wf nodes all ds exact same done h i inside live (Grow to ref items) ref d j at (there (here refl)) def) refers place
        (of_elements n to ref items site at own refl b.1)
        (λ a leaf.
        let o = owned h (Load (node i 2 a) (node d j 0) (Element ∷ q)) in
        let l = grown_leaf s.program.now wf h inside.fn inside.is i n to ref items site inside at own 1 a q leaf in
        let m = value_loads_have h i 2 0 (shape_at s.program.now (Some n)) (definitions s.program.now inside.fn i ref ds) a a (Element ∷ q) (omega arith) (in_shape a q l) (d, j) (def_listed s t wf nodes all ds exact same done h i inside live (Grow to ref items) ref d j at (here refl) def) in
        listed n o own_number (In-left o ((((A n ++ B n) ++ C n) ++ D n) ++ F n) (G n) (In-left o (((A n ++ B n) ++ C n) ++ D n) (F n) (In-left o ((A n ++ B n) ++ C n) (D n) (In-right o (A n ++ B n) (C n) m)))))

    pub copy_kept : (q : List PathStep) (x : Location) → Node (mark i 2 q) x → Node (mark i 1 q) x
    copy_kept q x from =
        let element_of : (a : ℕ) → HasLeaf s.program.now i 1 a q → slice_get (element_leaves site) a ≡ Some q = λ a leaf. grown_leaf s.program.now wf h inside.fn inside.is i n to ref items site inside at own 0 a q leaf in
        record {
          number = from.number;
          to = from.to;
          column = from.column;
          is = from.is;
          at = from.at;
          leaf = of_items n to ref items site at own refl (grown_leaf s.program.now wf h inside.fn inside.is i n to ref items site inside at own 1 from.number q from.leaf);
          refers = λ b a leaf row.
              let e = element_of a leaf in
              let source : HasLeaf s.program.now i 2 a q = of_elements n to ref items site at own refl e in
              let m = row_of s t wf nodes all ds exact same done i 2 a q source in
              let o = owned h (Copy (node i 1 a) (node i 2 a)) in
              let r = value_copies_have h i 1 0 (shape_at s.program.now (Some n)) ((i, 2) ∷ []) a a (Element ∷ q) (omega arith) (in_shape a q e) (i, 2) (here refl) in
              let rule = listed n o own_number (In-left o ((((A n ++ B n) ++ C n) ++ D n) ++ F n) (G n) (In-left o (((A n ++ B n) ++ C n) ++ D n) (F n) (In-right o ((A n ++ B n) ++ C n) (D n) r))) in
              rule_kept s t wf nodes all ds exact same done h i inside (Grow to ref items) live at (Copy (node i 1 a) (node i 2 a)) rule b m.0 row m.1 from.column (from.refers m.0 a source m.1);
        }

    pub write_kept : (target : ℕ) (base q : List PathStep) (x : Location) → Node (mark i 0 []) (loc target base) → is_path_of s.program.now target (element base q) ≡ true → Node (mark i 1 q) x → Place (loc target (element base q)) x
    write_kept target base q x refers ok value =
        store_kept s t wf nodes all ds exact same done h i inside live (Grow to ref items) i 0 target 1 base (Element ∷ q) q x at (own_leaf s t wf nodes all ds exact same done h i inside live (Grow to ref items) to at refl (here refl)) refers ok value
        (λ a leaf.
        let o = owned h (Store (node i 0 0) (Element ∷ q) (node i 1 a)) in
        let e = grown_leaf s.program.now wf h inside.fn inside.is i n to ref items site inside at own 0 a q leaf in
        listed n o own_number (In-right o ((((A n ++ B n) ++ C n) ++ D n) ++ F n) (G n) (value_stores_have h i 1 0 (shape_at s.program.now (Some n)) ((i, 0) ∷ []) a a (Element ∷ q) (omega arith) (in_shape a q e) (i, 0) (here refl))))
