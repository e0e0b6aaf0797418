-- Tables that are closed under the rules of references have what these say.
use Rattle.std.proofs.Common.{◌≡◌, ℕ, ◌<◌, true, List, [], ◌∷◌, ◌++◌, Some, refl, sym, ap, ◌∙◌, arith, subst}
use Rattle.std.specs.Prelude.{slice_get, length}
use Rattle.std.proofs.lemmas.Option.{slice_get_within}
use Rattle.argot_links.specs.Table.{has}
use Rattle.argot_plain.specs.Lists.{In, here, there}
use Rattle.argot_plain.specs.Code.{IsAt, IsIn, node_registers, leaves, reads}
use Rattle.argot_plain.specs.Machine.{is_path_of, is_of_type}
use Rattle.argot_plain.specs.Nodes.{Mark, mark, HasLeaf, of_kind}
use Rattle.argot_plain.specs.WellFormed.{WellFormed, reference_registers}
use Rattle.argot_plain.specs.declared.functions.Ident.{Ident}
use Rattle.argot_plain.specs.declared.instructions.Kind.{Kind}
use Rattle.argot_plain.specs.declared.instructions.Kind.TheVariants.{New, Step, Read, Write, Global, Assert}
use Rattle.argot_text.specs.declared.position.Pos.{Pos}
use Rattle.argot_text.specs.declared.path.PathStep.{PathStep}
use Rattle.argot_facts.specs.Exact.{AreDefs, place_of}
use Rattle.argot_facts.specs.Numbers.{node, location, nodes_of, locations_of, leaves_of}
use Rattle.argot_facts.specs.Reaching.{DefinedAt}
use Rattle.argot_facts.specs.Refers.{Location, loc}
use Rattle.argot_facts.specs.declared.pointing.Loc.{Loc}
use Rattle.argot_facts.proofs.Marked.{register_leaves}
use Rattle.argot_facts.proofs.Listed.{number_of}
use Rattle.argot_points_rules.specs.Column.{owned, value_stores, register_copies, definitions, kind_rules, variable_rules, rules_of}
use Rattle.argot_points_rules.specs.declared.rules.Owned.{Owned}
use Rattle.argot_points_rules.specs.declared.rules.Rule.TheVariants.{Put, Shift, Keep, Load, Store}
use Rattle.argot_points.specs.declared.system.System.{System}
use Rattle.argot_points.specs.declared.system.Tables.{Tables}
use Rattle.argot_points.specs.Meaning.{IsRow, IsColumn, IsMoved, IsKept}
use Rattle.argot_points.specs.Solved.{AllDone}
use Rattle.argot_points.proofs.Defined.{defined_leaf, definition_listed}
use Rattle.argot_points.proofs.Each.{In-right, shifts_have, keeps_have, value_loads_have, value_stores_have}
use Rattle.argot_points.proofs.LeafOf.{node_leaf}
use Rattle.argot_points.proofs.Copied.{first_alone}
use Rattle.argot_points.proofs.Ruled.{HasNode, HasPlace, row_of, column_of, is_location, rule_kept}

module _ (s : System) (t : Tables) (wf : WellFormed s.program.now) (nodes : s.nodes.items ≡ nodes_of s.program.now) (all : s.locations.items ≡ locations_of s.program.now)
    (ds : List (ℕ × ℕ × ℕ)) (exact : AreDefs s.program.now ds) (same : s.rules.items ≡ rules_of s.program.now ds) (done : AllDone s t)
    (h i : ℕ) (inside : IsIn s.program.now i h) (live : has t.live 0 h ≡ true) where
  abbrev Node : Mark → Location → Type 0
  Node m x = HasNode s t wf nodes all ds exact same done m x

  abbrev Place : Location → Location → Type 0
  Place y x = HasPlace s t wf nodes all ds exact same done y x

  abbrev Listed : Kind → Owned → Type 0
  Listed kind o = In o (kind_rules s.program.now inside.fn ds h i kind)

  -- the one leaf of a reference
  reference_leaf : (kind : Kind) (r : ℕ) → IsAt s.program.now i kind → In r (reference_registers kind) → slice_get (leaves s.program.now h r) 0 ≡ Some []
  reference_leaf kind r at m = ap (λ x. slice_get x 0) (wf.references.each i h r kind inside at m)

  pub own_leaf : (kind : Kind) (r : ℕ) → IsAt s.program.now i kind → slice_get (node_registers kind) 0 ≡ Some r → In r (reference_registers kind) → HasLeaf s.program.now i 0 0 []
  own_leaf kind r at reg m = of_kind h r kind inside at reg (reference_leaf kind r at m)

  alone : (kind : Kind) (r a : ℕ) → IsAt s.program.now i kind → slice_get (node_registers kind) 0 ≡ Some r → In r (reference_registers kind) → HasLeaf s.program.now i 0 a [] → a ≡ 0
  alone kind r a at reg m leaf =
      let l = node_leaf s.program.now wf h inside.fn inside.is i 0 a r [] kind inside at reg leaf in
      first_alone a [] (ap (λ x. slice_get x a) (sym (wf.references.each i h r kind inside at m)) ∙ ap (λ x. slice_get x a) (register_leaves s.program.now h inside.fn r inside.is) ∙ l)

  pub def_leaf : (kind : Kind) (r d j : ℕ) → IsAt s.program.now i kind → In r (reference_registers kind) → DefinedAt s.program.now d j r i → HasLeaf s.program.now d j 0 []
  def_leaf kind r d j at m def = defined_leaf s.program.now wf d j r i h 0 [] def inside (reference_leaf kind r at m)

  pub def_listed : (kind : Kind) (r d j : ℕ) → IsAt s.program.now i kind → In r (reads kind) → DefinedAt s.program.now d j r i → In {A = ℕ × ℕ} (d, j) (definitions s.program.now inside.fn i r ds)
  def_listed kind r d j at m def = definition_listed s.program.now wf ds exact h inside.fn inside.is i d j r kind inside at m def

  -- where the location moved along the path stands
  moved : (y z site : ℕ) (base path : List PathStep) (l : Loc) → loc site base ≡ place_of l → IsColumn s y l → IsColumn s z (location site (base ++ path)) → IsMoved s y path z
  moved y z site base path l e at stands = record {
    from = l;
    is = at;
    at = subst (λ (x : Location). IsColumn s z (location x.site (x.path ++ path))) e stands;
  }

  pub put_kept : (kind : Kind) (r site : ℕ) → IsAt s.program.now i kind → slice_get (node_registers kind) 0 ≡ Some r → In r (reference_registers kind) → site < length s.program.now.sites → Listed kind (owned h (Put (node i 0 0) site)) → Node (mark i 0 []) (loc site [])
  put_kept kind r site at reg m low rule =
      let c = column_of s t wf nodes all ds exact same done site [] low refl in
      record {
        number = 0;
        leaf = own_leaf kind r at reg m;
        to = location site [];
        column = c.0;
        is = refl;
        at = c.1;
        refers = λ n a leaf row. rule_kept s t wf nodes all ds exact same done h i inside kind live at (Put (node i 0 0) site) rule n c.0 (subst (λ w. IsRow s n (node i 0 w)) (alone kind r a at reg m leaf) row) c.1;
      }

  pub step_kept : (to from d j site : ℕ) (base path : List PathStep) → IsAt s.program.now i (Step to from path) → DefinedAt s.program.now d j from i → Node (mark d j []) (loc site base) → is_path_of s.program.now site (base ++ path) ≡ true → Node (mark i 0 []) (loc site (base ++ path))
  step_kept to from d j site base path at def x ok =
      let low = ap (λ (l : Location). l.site) x.is in
      let c = column_of s t wf nodes all ds exact same done site (base ++ path) (subst (λ w. w < length s.program.now.sites) (sym low) (is_location s t wf nodes all ds exact same done x.column x.to x.at).site) ok in
      let source = def_leaf (Step to from path) from d j at (there (here refl)) def in
      let m = row_of s t wf nodes all ds exact same done d j 0 [] source in
      let rule = shifts_have h (node i 0 0) path (definitions s.program.now inside.fn i from ds) (d, j) (def_listed (Step to from path) from d j at (here refl) def) in
      record {
        number = 0;
        leaf = own_leaf (Step to from path) to at refl (here refl);
        to = location site (base ++ path);
        column = c.0;
        is = refl;
        at = c.1;
        refers = λ n a leaf row. rule_kept s t wf nodes all ds exact same done h i inside (Step to from path) live at (Shift (node i 0 0) (node d j 0) path) rule n m.0
            (subst (λ w. IsRow s n (node i 0 w)) (alone (Step to from path) to a at refl (here refl) leaf) row) m.1 x.column (x.refers m.0 0 source m.1) c.0 (moved x.column c.0 site base path x.to x.is x.at c.1);
      }

  pub assert_kept : (to from target d j site : ℕ) (path : List PathStep) → IsAt s.program.now i (Assert to from target) → DefinedAt s.program.now d j from i → Node (mark d j []) (loc site path) → is_of_type s.program.now target (slice_get s.program.now.sites site) ≡ true → Node (mark i 0 []) (loc site path)
  assert_kept to from target d j site path at def x ok =
      let source = def_leaf (Assert to from target) from d j at (there (here refl)) def in
      let m = row_of s t wf nodes all ds exact same done d j 0 [] source in
      let rule = keeps_have h (node i 0 0) target (definitions s.program.now inside.fn i from ds) (d, j) (def_listed (Assert to from target) from d j at (here refl) def) in
      let kept : IsKept s x.column target = record { loc = x.to; is = x.at; kept = subst (λ (l : Location). is_of_type s.program.now target (slice_get s.program.now.sites l.site) ≡ true) x.is ok } in
      record {
        number = 0;
        leaf = own_leaf (Assert to from target) to at refl (here refl);
        to = x.to;
        column = x.column;
        is = x.is;
        at = x.at;
        refers = λ n a leaf row. rule_kept s t wf nodes all ds exact same done h i inside (Assert to from target) live at (Keep (node i 0 0) (node d j 0) target) rule n m.0
            (subst (λ w. IsRow s n (node i 0 w)) (alone (Assert to from target) to a at refl (here refl) leaf) row) m.1 x.column (x.refers m.0 0 source m.1) kept;
      }

  -- what is read through a reference
  pub load_kept : (kind : Kind) (d j site k b : ℕ) (base path q : List PathStep) (x : Location) → IsAt s.program.now i kind → HasLeaf s.program.now d j 0 [] → Node (mark d j []) (loc site base) → Place (loc site (base ++ path)) x
      → HasLeaf s.program.now i k b q → ((a : ℕ) → HasLeaf s.program.now i k a q → Listed kind (owned h (Load (node i k a) (node d j 0) path))) → Node (mark i k q) x
  load_kept kind d j site k b base path q x at source ref place leaf rule =
      let m = row_of s t wf nodes all ds exact same done d j 0 [] source in
      let stands : IsColumn s place.row (location site (base ++ path)) = subst (λ (l : Location). IsColumn s place.row (location l.site l.path)) (sym place.is_from) place.from_at in
      record {
        number = b;
        leaf = leaf;
        to = place.to;
        column = place.column;
        is = place.is_to;
        at = place.to_at;
        refers = λ n a leaf row. rule_kept s t wf nodes all ds exact same done h i inside kind live at (Load (node i k a) (node d j 0) path) (rule a leaf) n m.0 row m.1 ref.column (ref.refers m.0 0 source m.1)
            place.row (moved ref.column place.row site base path ref.to ref.is ref.at stands) place.column place.refers;
      }

  -- and what is written
  pub store_kept : (kind : Kind) (d j site k : ℕ) (base path q : List PathStep) (x : Location) → IsAt s.program.now i kind → HasLeaf s.program.now d j 0 [] → Node (mark d j []) (loc site base) → is_path_of s.program.now site (base ++ path) ≡ true → Node (mark i k q) x
      → ((a : ℕ) → HasLeaf s.program.now i k a q → Listed kind (owned h (Store (node d j 0) path (node i k a)))) → Place (loc site (base ++ path)) x
  store_kept kind d j site k base path q x at source ref ok value rule =
      let m = row_of s t wf nodes all ds exact same done d j 0 [] source in
      let n = row_of s t wf nodes all ds exact same done i k value.number q value.leaf in
      let low = ap (λ (l : Location). l.site) ref.is in
      let c = column_of s t wf nodes all ds exact same done site (base ++ path) (subst (λ w. w < length s.program.now.sites) (sym low) (is_location s t wf nodes all ds exact same done ref.column ref.to ref.at).site) ok in
      record {
        here = location site (base ++ path);
        row = c.0;
        is_from = refl;
        from_at = c.1;
        to = value.to;
        column = value.column;
        is_to = value.is;
        to_at = value.at;
        refers = rule_kept s t wf nodes all ds exact same done h i inside kind live at (Store (node d j 0) path (node i k value.number)) (rule value.number value.leaf) n.0 m.0 n.1 m.1 ref.column (ref.refers m.0 0 source m.1)
            c.0 (moved ref.column c.0 site base path ref.to ref.is ref.at c.1) value.column (value.refers n.0 value.number value.leaf n.1);
      }

  pub new_kept : (to site : ℕ) → IsAt s.program.now i (New to site) → Node (mark i 0 []) (loc site [])
  new_kept to site at = put_kept (New to site) to site at refl (here refl) (wf.numbers.new i to site at) (here refl)

  pub global_kept : (to k site : ℕ) (ident : Ident) (pos : Pos) → IsAt s.program.now i (Global to k) → slice_get s.program.now.globals k ≡ Some (ident, pos, site) → Node (mark i 0 []) (loc site [])
  global_kept to k site ident pos at g =
      let e = wf.global_sites.site k ident pos site g in
      let w = wf.global_sites.is k (slice_get_within s.program.now.globals k (ident, pos, site) g) in
      put_kept (Global to k) to site at refl (here refl) (slice_get_within s.program.now.sites site w.0 (ap (slice_get s.program.now.sites) e ∙ w.1))
      (subst (λ v. In (owned h (Put (node i 0 0) site)) (variable_rules h i v)) (sym g) (here refl))

  pub read_kept : (to ref d j site : ℕ) (base q : List PathStep) (qs : List (List PathStep)) (x : Location) → IsAt s.program.now i (Read to ref qs) → DefinedAt s.program.now d j ref i → Node (mark d j []) (loc site base) → In q qs → Place (loc site (base ++ q)) x → Node (mark i 0 q) x
  read_kept to ref d j site base q qs x at def refers listed place =
      let kind = Read to ref qs in
      let same = wf.read_leaves i h to ref qs inside at in
      let b = number_of q qs listed in
      load_kept (Read to ref qs) d j site 0 b.0 base q q x at (def_leaf (Read to ref qs) ref d j at (here refl) def) refers place (of_kind h to (Read to ref qs) inside at refl (ap (λ ls. slice_get ls b.0) (sym same) ∙ b.1))
      (λ a leaf.
      let l = node_leaf s.program.now wf h inside.fn inside.is i 0 a to q (Read to ref qs) inside at refl leaf in
      value_loads_have h i 0 0 qs (definitions s.program.now inside.fn i ref ds) a a q (omega arith) (ap (λ ls. slice_get ls a) (same ∙ register_leaves s.program.now h inside.fn to inside.is) ∙ l) (d, j) (def_listed (Read to ref qs) ref d j at (here refl) def))

  pub write_kept : (ref from d j site : ℕ) (base q : List PathStep) (x : Location) → IsAt s.program.now i (Write ref from) → DefinedAt s.program.now d j ref i → Node (mark d j []) (loc site base) → is_path_of s.program.now site (base ++ q) ≡ true → Node (mark i 0 q) x → Place (loc site (base ++ q)) x
  write_kept ref from d j site base q x at def refers ok value =
      store_kept (Write ref from) d j site 0 base q q x at (def_leaf (Write ref from) ref d j at (here refl) def) refers ok value
      (λ a leaf. In-right (owned h (Store (node d j 0) q (node i 0 a))) (register_copies s.program.now inside.fn ds h i 0 (from ∷ [])) (value_stores h i 0 0 (leaves_of inside.fn from) (definitions s.program.now inside.fn i ref ds))
      (value_stores_have h i 0 0 (leaves_of inside.fn from) (definitions s.program.now inside.fn i ref ds) a a q (omega arith) (node_leaf s.program.now wf h inside.fn inside.is i 0 a from q (Write ref from) inside at refl leaf) (d, j) (def_listed (Write ref from) ref d j at (here refl) def)))
