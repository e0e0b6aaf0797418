-- What is found in sound and closed tables is exactly the relation.
use Rattle.std.proofs.Common.{◌≡◌, ℕ, ◌+◌, Bool, false, List, [], ◌∷◌, ◌++◌, Some, refl, sym, ap, ◌∙◌, inl, inr, arith, subst}
use Rattle.std.specs.Prelude.{◌↔◌, slice_get, length, ◌<◌}
use Rattle.std.proofs.lemmas.Option.{slice_get_within}
use Rattle.std.specs.List.{filter_map}
use Rattle.argot_links.specs.Members.{IsAscending}
use Rattle.argot_links.specs.Table.{Table, row}
use Rattle.argot_plain.specs.Lists.{In}
use Rattle.argot_plain.specs.Code.{Code, Hands}
use Rattle.argot_plain.specs.declared.instructions.Callee.{Callee}
use Rattle.argot_plain.specs.declared.instructions.Callee.TheVariants.{Static, Value, Method}
use Rattle.argot_facts.proofs.Listed.{In-append, In-left, In-right, get_at}
use Rattle.argot_facts.specs.Exact.{SpotRefers, by_node, by_place, ArePoints, place_of}
use Rattle.argot_facts.specs.Graphs.{IsMarked}
use Rattle.argot_facts.specs.Numbers.{location, node}
use Rattle.argot_facts.specs.Refers.{Location, Fact, Holds, IsLive, Targets, NodeRefers, PlaceRefers}
use Rattle.argot_facts.specs.declared.nodes.Node.{Node}
use Rattle.argot_facts.specs.declared.pointing.Loc.{Loc}
use Rattle.argot_facts.specs.Pointing.{Pointing, FitsPoints, paired, of_nodes, of_places}
use Rattle.argot_facts.specs.declared.pointing.Spot.{Spot}
use Rattle.argot_facts.specs.declared.pointing.Spot.TheVariants as spot
use Rattle.argot_points_rules.specs.Column.{reference}
use Rattle.argot_points.specs.declared.system.System.{System}
use Rattle.argot_points.specs.declared.system.Tables.{Tables}
use Rattle.argot_points.specs.Found.{Found, Calls, IsTarget, by_number as by_its_number, by_function, by_method as by_name, IsExact, AreRead, AreTargetsOf}
use Rattle.argot_points.specs.Meaning.{IsRow, IsColumn, NodeTo, PlaceTo, IsCall, MeansAt, by_value, by_method, Aimed, by_number, by_object}
use Rattle.argot_points.specs.Reading.{HasTarget, AreListed, refers_of, found_of}
use Rattle.argot_points.specs.Solved.{IsSound, AllDone, Refers, place_row}
use Rattle.argot_points.specs.Solving.{IsReady}
use Rattle.argot_points.proofs.Aims.{listed_all}
use Rattle.argot_points.proofs.CallsJustified.{target_told}
use Rattle.argot_points.proofs.CallsTold.{hands_once, same_kind}
use Rattle.argot_points.proofs.Called.{value_only, method_only, number_means_none}
use Rattle.argot_points.proofs.Complete.{Kept, kept}
use Rattle.argot_points.proofs.Rows.{IsIn, ascending_sorted, has_row, row_has, of_nodes_is, is_of_nodes, of_places_is, is_of_places}
use Rattle.argot_points.proofs.Ruled.{row_of}
use Rattle.argot_points.proofs.Told.{same_item}

same_loc : (l m : Loc) → place_of l ≡ place_of m → l ≡ m
same_loc l m e = ap (λ (x : Location). location x.site x.path) e

-- ---- what is in the lists

module _ (s : System) (t : Tables) where
  abbrev node_list : List (Spot × Loc)
  node_list = of_nodes s.locations.items t.refers 0 s.nodes.items

  abbrev place_list : List (Spot × Loc)
  place_list = of_places s.locations.items t.refers (length s.nodes.items) s.locations.items

  -- a node with a location stands in the row of the node
  node_in : (a : Node) (l : Loc) → In (spot.Node a, l) (refers_of s t) → (n : ℕ) × IsRow s n a × IsIn s.locations.items t.refers l n
  node_in a l m = elim (In-append (spot.Node a, l) node_list place_list m) [
    | inl h ↦
        let x = of_nodes_is s.locations.items t.refers (spot.Node a) l 0 s.nodes.items h in
        let e : x.1 ≡ a = (let f = x.3 in cc) in
        let z : 0 + x.0 ≡ x.0 = omega arith in
        (x.0, x.2 ∙ ap Some e, subst (IsIn s.locations.items t.refers l) z x.4)
    | inr h ↦ let x = of_places_is s.locations.items t.refers (spot.Node a) l (length s.nodes.items) s.locations.items h in let f = x.3 in absurd cc
  ]

  in_node : (a : Node) (l : Loc) (n : ℕ) → IsRow s n a → IsIn s.locations.items t.refers l n → In (spot.Node a, l) (refers_of s t)
  in_node a l n is x =
      let z : n ≡ 0 + n = omega arith in
      In-left (spot.Node a, l) node_list place_list (is_of_nodes s.locations.items t.refers l 0 n a s.nodes.items is (subst (IsIn s.locations.items t.refers l) z x))

  place_in : (k l : Loc) → In (spot.Loc k, l) (refers_of s t) → (z : ℕ) × IsColumn s z k × IsIn s.locations.items t.refers l (place_row s z)
  place_in k l m = elim (In-append (spot.Loc k, l) node_list place_list m) [
    | inl h ↦ let x = of_nodes_is s.locations.items t.refers (spot.Loc k) l 0 s.nodes.items h in let f = x.3 in absurd cc
    | inr h ↦
        let x = of_places_is s.locations.items t.refers (spot.Loc k) l (length s.nodes.items) s.locations.items h in
        let e : x.1 ≡ k = (let f = x.3 in cc) in
        (x.0, x.2 ∙ ap Some e, x.4)
  ]

  in_place : (k l : Loc) (z : ℕ) → IsColumn s z k → IsIn s.locations.items t.refers l (place_row s z) → In (spot.Loc k, l) (refers_of s t)
  in_place k l z is x = In-right (spot.Loc k, l) node_list place_list (is_of_places s.locations.items t.refers l (length s.nodes.items) z k s.locations.items is x)

-- ---- targets, as contracts see them and as the tables have them

module _ (s : System) (t : Tables) (uses : List (List ℕ)) (ready : IsReady s t uses) where
  abbrev Has : ℕ → ℕ → Type 0
  Has i g = (takes : Bool) × HasTarget s t i g takes

  by_calls : (i n g : ℕ) (callee : Callee) (args : List ℕ) (takes : Bool) (c : Calls (found_of s t) i callee args n) → Aimed s (Refers t) i (reference i callee args n) g takes → Has i g
  by_calls i n g callee args takes c aimed = (
    takes,
    record {
      function = c.function;
      inside = c.inside;
      live = row_has t.live 0 c.function c.live;
      kind = c.kind;
      at = c.at;
      callee = callee;
      args = args;
      behind = n;
      hands = c.hands;
      aimed = aimed;
    },
  )

  call_of : (i n : ℕ) (callee : Callee) (args : List ℕ) → Calls (found_of s t) i callee args n → IsCall s.program.now i callee args n
  call_of i n callee args c = record { kind = c.kind; is = c.at; hands = c.hands }

  pub to_target : (i g : ℕ) → IsTarget (found_of s t) i g → Has i g
  to_target i g (by_its_number n args c) = by_calls i n g (Static g) args false c (by_number args n (call_of i n (Static g) args c))
  to_target i g (by_function r n args l site c m is named) =
      let x = node_in s t (node i (n + length args) 0) l m in
      let fn = get_at s.program.now.functions g (ready.well.numbers.function l.site g site is named) in
      by_calls i n g (Value r) args fn.0.has_env c (by_object (Value r) args n x.0 x.2.column (call_of i n (Value r) args c) x.1 x.2.has
      (record { loc = l; is = x.2.at; means = by_value r (record { here = site; at = is; named = named; fn = fn.0; is = fn.1; env = refl }) }))
  to_target i g (by_name r n name args l site c m is listed) =
      let x = node_in s t (node i n 0) l m in
      by_calls i n g (Method r name) args false c (by_object (Method r name) args n x.0 x.2.column (call_of i n (Method r name) args c) x.1 x.2.has
      (record { loc = l; is = x.2.at; means = by_method r name (record { here = site; at = is; listed = listed }) }))

  module _ (i g : ℕ) (takes : Bool) (has : HasTarget s t i g takes) where
    found_call : (callee : Callee) (args : List ℕ) (n : ℕ) → IsCall s.program.now i callee args n → Calls (found_of s t) i callee args n
    found_call callee args n c = record { function = has.function; inside = has.inside; live = has_row t.live 0 has.function has.live; kind = c.kind; at = c.is; hands = c.hands }

    same_call : (callee : Callee) (args : List ℕ) (n : ℕ) → IsCall s.program.now i callee args n → (has.callee ≡ callee) × (has.args ≡ args) × (has.behind ≡ n)
    same_call callee args n c = hands_once c.kind has.callee callee has.args args has.behind n (subst (λ k. Hands k has.callee has.args has.behind) (same_kind s.program.now i has.kind c.kind has.at c.is) has.hands) c.hands

    -- the reference of the call
    same_reference : (callee : Callee) (args : List ℕ) (n : ℕ) → IsCall s.program.now i callee args n → reference i has.callee has.args has.behind ≡ reference i callee args n
    same_reference callee args n c =
        let o = same_call callee args n c in
        ap (λ x. reference i x has.args has.behind) o.0 ∙ ap (λ xs. reference i callee xs has.behind) o.1 ∙ ap (λ m. reference i callee args m) o.2

    from_aimed : (tk : Bool) (by : Node) → by ≡ reference i has.callee has.args has.behind → Aimed s (Refers t) i by g tk → IsTarget (found_of s t) i g
    from_aimed _ by is (by_number args n c) = by_its_number n args (found_call (Static g) args n c)
    from_aimed tk by is (by_object callee args n row y c stands refers means) = meant callee refl means.means
      where
        meant : (x : Callee) → callee ≡ x → MeansAt s means.loc.site callee g tk → IsTarget (found_of s t) i g
        meant (Value r) e m =
            let v = value_only s means.loc.site g r tk callee e m in
            let c' = subst (λ x. IsCall s.program.now i x args n) e c in
            let there = subst (IsRow s row) (is ∙ same_reference (Value r) args n c') stands in
            by_function r n args means.loc v.here (found_call (Value r) args n c') (in_node s t (node i (n + length args) 0) means.loc row there (record { column = y; at = means.is; has = refers })) v.at v.named
        meant (Method r name) e m =
            let d = method_only s means.loc.site g r name tk callee e m in
            let c' = subst (λ x. IsCall s.program.now i x args n) e c in
            let there = subst (IsRow s row) (is ∙ same_reference (Method r name) args n c') stands in
            by_name r n name args means.loc d.0.here (found_call (Method r name) args n c') (in_node s t (node i n 0) means.loc row there (record { column = y; at = means.is; has = refers })) d.0.at d.0.listed
        meant (Static h) e m = absurd (number_means_none s means.loc.site g h tk callee e m)

    pub from_target : IsTarget (found_of s t) i g
    from_target = from_aimed takes (reference i has.callee has.args has.behind) refl has.aimed

-- ---- exactness

module _ (s : System) (t : Tables) (uses : List (List ℕ)) (ready : IsReady s t uses) (sound : IsSound s t) (done : AllDone s t) where
  of_fact : (f : Fact) → Holds s.program.now f → Kept s t ready.well ready.nodes ready.locations ready.defs ready.exact ready.rules done sound.entry f
  of_fact f h = kept s t ready.well ready.nodes ready.locations ready.defs ready.exact ready.rules done sound.entry f h

  node_refers : (a : Node) (l : Loc) (n y : ℕ) → IsRow s n a → IsColumn s y l → NodeTo s n y → SpotRefers s.program.now (spot.Node a) l
  node_refers a l n y is at x =
      let e = same_item s.nodes.items n x.node a x.is is in
      let f = same_item s.locations.items y x.to l x.at at in
      by_node x.mark (subst (λ b. IsMarked s.program.now b x.mark) e x.marked) (subst (λ (k : Loc). Holds s.program.now (NodeRefers x.mark (place_of k))) f x.holds)

  place_refers : (k l : Loc) (z y : ℕ) → IsColumn s z k → IsColumn s y l → PlaceTo s z y → SpotRefers s.program.now (spot.Loc k) l
  place_refers k l z y is at x =
      let e = same_item s.locations.items z x.from k x.is is in
      let f = same_item s.locations.items y x.to l x.at at in
      by_place (subst (λ (j : Loc). Holds s.program.now (PlaceRefers (place_of j) (place_of l))) e (subst (λ (j : Loc). Holds s.program.now (PlaceRefers (place_of x.from) (place_of j))) f x.holds))

  to_refers : (a : Spot) (l : Loc) → In (a, l) (refers_of s t) → SpotRefers s.program.now a l
  to_refers (spot.Node a) l m = let x = node_in s t a l m in node_refers a l x.0 x.2.column x.1 x.2.at (sound.nodes x.0 x.2.column (slice_get_within s.nodes.items x.0 a x.1) x.2.has)
  to_refers (spot.Loc k) l m = let x = place_in s t k l m in place_refers k l x.0 x.2.column x.1 x.2.at (sound.places x.0 x.2.column (slice_get_within s.locations.items x.0 k x.1) x.2.has)

  from_refers : (a : Spot) (l : Loc) → SpotRefers s.program.now a l → In (a, l) (refers_of s t)
  from_refers _ _ (by_node {a = a} {l = l} m mk holds) =
      let k = of_fact (NodeRefers m (place_of l)) holds in
      let row = row_of s t ready.well ready.nodes ready.locations ready.defs ready.exact ready.rules done m.place m.index a.leaf m.leaf mk.has in
      let e : node m.place m.index a.leaf ≡ a = ap (λ x. node x m.index a.leaf) (sym mk.place) ∙ ap (λ x. node a.place x a.leaf) (sym mk.index) in
      in_node s t a l row.0 (row.1 ∙ ap Some e) (record { column = k.column; at = k.at ∙ ap Some (same_loc k.to l (sym k.is)); has = k.refers row.0 a.leaf mk.has row.1 })
  from_refers _ _ (by_place {at = at} {l = l} holds) =
      let k = of_fact (PlaceRefers (place_of at) (place_of l)) holds in
      in_place s t at l k.row (k.from_at ∙ ap Some (same_loc k.here at (sym k.is_from))) (record { column = k.column; at = k.to_at ∙ ap Some (same_loc k.to l (sym k.is_to)); has = k.refers })

  -- by what the tables have, calls call whom they call
  sound_aim : (i g : ℕ) (by : Node) (takes : Bool) → Aimed s (Refers t) i by g takes → Aimed s (NodeTo s) i by g takes
  sound_aim i g by takes (by_number args n c) = by_number args n c
  sound_aim i g by takes (by_object callee args n row y c stands refers means) = by_object callee args n row y c stands (sound.nodes row y (slice_get_within s.nodes.items row by stands) refers) means

  told : (i g : ℕ) (takes : Bool) → HasTarget s t i g takes → Holds s.program.now (Targets i g takes)
  told i g takes x = target_told s ready.well ready.locations ready.defs ready.exact x.function i x.inside.fn x.inside.is x.inside (sound.live x.function x.live).holds x.kind x.callee x.args x.behind g takes x.at x.hands
      (sound_aim i g (reference i x.callee x.args x.behind) takes x.aimed)

  pub is_exact : IsExact (found_of s t)
  is_exact = record {
    refers = λ a l. (to_refers a l, from_refers a l);
    live = λ g. (λ m. (sound.live g (row_has t.live 0 g m)).holds, λ h. has_row t.live 0 g (of_fact (IsLive g) h));
    targets = λ i g. (
      λ x. let y = to_target s t uses ready i g x in (y.0, told i g y.0 y.1),
      λ x. from_target s t uses ready i g x.0 (of_fact (Targets i g x.0) x.1),
    );
  }

module _ (s : System) (t : Tables) (uses : List (List ℕ)) (ready : IsReady s t uses) where
  -- a target is a function of the program
  target_inside : (i g : ℕ) (takes : Bool) → HasTarget s t i g takes → g < length s.program.now.functions
  target_inside i g takes has = aimed_inside takes (reference i has.callee has.args has.behind) has.aimed
    where
      meant_inside : (site : ℕ) (callee : Callee) (tk : Bool) → MeansAt s site callee g tk → g < length s.program.now.functions
      meant_inside site _ tk (by_value r v) = slice_get_within s.program.now.functions g v.fn v.is
      meant_inside site _ tk (by_method r name d) = let a = ready.well.one_wrapper.is d.here.dynamic g name d.listed in slice_get_within s.program.now.functions g a.0 a.1

      aimed_inside : (tk : Bool) (by : Node) → Aimed s (Refers t) i by g tk → g < length s.program.now.functions
      aimed_inside _ by (by_number args n c) = ready.well.numbers.callee i g n c.kind args c.is c.hands
      aimed_inside tk by (by_object callee args n r y c stands refers means) = meant_inside means.loc.site callee tk means.means

  pub listed_targets : (targets : List (ℕ × ℕ)) → AreListed s t (length s.program.now.instrs) targets → AreTargetsOf (found_of s t) targets
  listed_targets targets listed = record {
    order = λ k a b h e. listed.order k (k + 1) a b (omega arith) h e;
    each = λ i g. (
      λ m. let y = (listed_all s t targets ready.well.ranges listed i g).0 m in from_target s t uses ready i g y.0 y.1,
      λ y. (listed_all s t targets ready.well.ranges listed i g).1 (to_target s t uses ready i g y),
    );
    places = λ i g m. ((listed.each i g).0 m).0;
    callees = λ i g m. (let x = ((listed.each i g).0 m).1 in target_inside i g x.0 x.1);
  }

  -- what is read out
  abbrev pub read_of : List ℕ → List (ℕ × ℕ) → Pointing
  read_of live targets = record { nodes = s.nodes.items; locations = s.locations.items; rows = t.refers; live = live; targets = targets }

  module _ (live : List ℕ) (targets : List (ℕ × ℕ)) (same : live ≡ row t.live 0) (inside : (g : ℕ) → In g live → g < length s.program.now.functions) (are : AreTargetsOf (found_of s t) targets) where
    pub read_fits : FitsPoints s.program.now (read_of live targets)
    read_fits = record {
      nodes = ready.nodes;
      locations = ready.locations;
      rows = record { rows = ready.size.rows; cols = ready.size.cols; few_nodes = ready.few_nodes; few_locations = ready.few_locations };
      live = inside;
      places = are.places;
      callees = are.callees;
    }

    pub is_read : IsAscending (row t.live 0) → AreRead (found_of s t) (read_of live targets)
    is_read ascending = record {
      fits = read_fits;
      refers = refl;
      live = same;
      live_order = λ k a b h e. ascending_sorted (row t.live 0) ascending k (k + 1) a b (omega arith) (ap (λ xs. slice_get xs k) (sym same) ∙ h) (ap (λ xs. slice_get xs (k + 1)) (sym same) ∙ e);
      targets_order = are.order;
      targets = are.each;
    }

-- exactly what is found, where that is exact
pub points_of : (p : Code) (v : Found) (x : Pointing) → v.program ≡ p → IsExact v → AreRead v x → ArePoints p x
points_of p v x same exact read = subst (λ c. ArePoints c x) same (record {
  fits = read.fits;
  refers = λ a l. subst (λ xs. In (a, l) xs ↔ SpotRefers v.program a l) (sym read.refers) (exact.refers a l);
  live_order = read.live_order;
  live = λ g. subst (λ xs. In g xs ↔ Holds v.program (IsLive g)) (sym read.live) (exact.live g);
  targets = record {
    ordered = read.targets_order;
    each = λ i g. (λ m. (exact.targets i g).0 ((read.targets i g).0 m), λ h. (read.targets i g).1 ((exact.targets i g).1 h));
  };
})

-- nothing is found in empty tables
no_nodes : (ls : List Loc) (t : Table) (r : ℕ) (ns : List Node) → ((a : ℕ) → row t a ≡ []) → of_nodes ls t r ns ≡ []
no_nodes ls t r [] none = refl
no_nodes ls t r (n ∷ ns) none = ap (λ cs. filter_map (λ c. paired (spot.Node n) (slice_get ls c)) cs ++ of_nodes ls t (r + 1) ns) (none r) ∙ no_nodes ls t (r + 1) ns none

no_places : (ls : List Loc) (t : Table) (r : ℕ) (ks : List Loc) → ((a : ℕ) → row t a ≡ []) → of_places ls t r ks ≡ []
no_places ls t r [] none = refl
no_places ls t r (k ∷ ks) none = ap (λ cs. filter_map (λ c. paired (spot.Loc k) (slice_get ls c)) cs ++ of_places ls t (r + 1) ks) (none r) ∙ no_places ls t (r + 1) ks none

found : Code → List (Spot × Loc) → List ℕ → Found
found p refers live = record { program = p; refers = refers; live = live }

pub nothing_found : (s : System) (t : Tables) → ((a : ℕ) → row t.refers a ≡ []) → ((a : ℕ) → row t.live a ≡ []) → found_of s t ≡ record { program = s.program.now; refers = []; live = [] }
unfolding found
nothing_found s t refers live =
    ap (λ xs. found s.program.now (xs ++ of_places s.locations.items t.refers (length s.nodes.items) s.locations.items) (row t.live 0)) (no_nodes s.locations.items t.refers 0 s.nodes.items refers)
    ∙ ap (λ xs. found s.program.now xs (row t.live 0)) (no_places s.locations.items t.refers (length s.nodes.items) s.locations.items refers)
    ∙ ap (λ xs. found s.program.now [] xs) (live 0)
