-- The stores among the rules of points-to are those of Writes and Grows.
use Rattle.std.proofs.Common.{◌≡◌, ℕ, ◌+◌, List, [], ◌∷◌, ◌++◌, Option, Some, None, drop, refl, sym, ap, ◌∙◌, subst, inl, inr, arith}
use Rattle.std.specs.Prelude.{slice_get, length}
use Rattle.argot_plain.specs.Code.{Code, IsAt, IsFunction, IsIn, IsSiteOf, found_by, handed_values, leaves}
use Rattle.argot_plain.specs.Lists.{In, here, without_first}
use Rattle.argot_plain.specs.Nodes.{HasLeaf, of_kind, of_items}
use Rattle.argot_plain.specs.WellFormed.{WellFormed, reference_registers}
use Rattle.argot_plain.specs.declared.functions.Function.{Function}
use Rattle.argot_plain.specs.declared.functions.Ident.{Ident}
use Rattle.argot_plain.specs.declared.instructions.Callee.{Callee}
use Rattle.argot_plain.specs.declared.instructions.Kind.{Kind}
use Rattle.argot_plain.specs.declared.instructions.Kind.TheVariants.{Move, Join, New, Step, Read, Write, Grow, Global, Assert, Call, Go, Defer, Leave, Passed}
use Rattle.argot_plain.specs.declared.sites.Site.{Site}
use Rattle.argot_text.specs.declared.position.Pos.{Pos}
use Rattle.argot_text.specs.declared.path.PathStep.{PathStep}
use Rattle.argot_text.specs.declared.path.PathStep.TheVariants.{Element}
use Rattle.argot_facts.specs.Exact.{AreDefs}
use Rattle.argot_facts.specs.Numbers.{node, leaves_of, own_site, shape_at}
use Rattle.argot_facts.specs.Reaching.{DefinedAt}
use Rattle.argot_facts.specs.declared.nodes.Node.{Node}
use Rattle.argot_facts.proofs.Listed.{in_of_get, get-map, map-get}
use Rattle.argot_facts.proofs.Marked.{own_is, own_there, register_leaves}
use Rattle.argot_points_rules.specs.Column.{owned, copies, value_copies, value_loads, value_stores, register_copies, item_copies, definitions, kind_rules, grow_rules, variable_rules, hand_rules, reference, enters, returns, fresh_of, rules_of}
use Rattle.argot_points_rules.specs.declared.rules.Owned.{Owned}
use Rattle.argot_points_rules.specs.declared.rules.Rule.{Rule}
use Rattle.argot_points_rules.specs.declared.rules.Rule.TheVariants.{Put, Store, Aim}
use Rattle.argot_points.proofs.Defined.{defined_leaf, definition_found, definition_listed}
use Rattle.argot_points.proofs.Each.{In-append, In-right, one-In, each_copies, each_shifts, each_keeps, each_value_copies, each_value_loads, each_value_stores, value_stores_have}
use Rattle.argot_points.proofs.Handed.{each_enters, each_returns, each_fresh, rule_found, rule_listed}
use Rattle.argot_points.proofs.LeafOf.{node_leaf, grown_leaf}
use Rattle.argot_points.proofs.Owners.{rule_owner}
use Rattle.argot_points.proofs.Pieces.{each_move, each_join, each_register, each_item}

-- what a place of the function writes behind a reference: the path moves what stands at the first node, and the second is written
pub data IsStoring (p : Code) (h : ℕ) : Node → List PathStep → Node → Type 0 where
  by_write : {d j i a : ℕ} {q : List PathStep} → (ref from : ℕ) → IsIn p i h → IsAt p i (Write ref from) → DefinedAt p d j ref i → HasLeaf p d j 0 [] → HasLeaf p i 0 a q
      → IsStoring p h (node d j 0) q (node i 0 a)
  by_grow : {i a : ℕ} {q : List PathStep} → (to ref : ℕ) → (items : List ℕ) → IsIn p i h → IsAt p i (Grow to ref items) → HasLeaf p i 0 0 [] → HasLeaf p i 1 a q
      → IsStoring p h (node i 0 0) (Element ∷ q) (node i 1 a)

-- the rule is no store, or one of these
abbrev pub AsStore : Code → ℕ → Rule → Type 0
AsStore p h (Store at path source) = IsStoring p h at path source
AsStore p h _ = Unit {0}

abbrev shape_in : Site → List (List PathStep)
shape_in site = site.shape

-- a leaf of an element and one of the shape of a Grow's own site
module _ (p : Code) (wf : WellFormed p) (h i : ℕ) (inside : IsIn p i h) (to ref : ℕ) (items : List ℕ) (at : IsAt p i (Grow to ref items)) (n : ℕ) (site : Site) (own : IsSiteOf p i n site) where
  shape_is : shape_at p (Some n) ≡ site.shape
  shape_is = ap (λ v. elim v as (λ x. List (List PathStep)) [ None ↦ [] | Some x ↦ shape_in x ]) own.is

  elements : (q : List PathStep) → In q site.shape → (rest : List PathStep) × (q ≡ Element ∷ rest)
  elements q m =
      let w = wf.grow_site i to ref items at in
      let same : n ≡ w.number = w.one.alone n site own in
      let e : Some site ≡ Some w.one.site = sym own.is ∙ ap (slice_get p.sites) same ∙ w.one.is.is in
      let f : site ≡ w.one.site = cc in
      w.elements q (subst (λ (x : Site). In q x.shape) f m)

  -- a leaf of the shape is an element's
  shape_leaf : (c : ℕ) (q : List PathStep) → slice_get (shape_at p (Some n)) c ≡ Some q → (rest : List PathStep) × (q ≡ Element ∷ rest) × HasLeaf p i 1 c rest
  shape_leaf c q g =
      let g' = subst (λ qs. slice_get qs c ≡ Some q) shape_is g in
      let r = elements q (in_of_get site.shape c q g') in
      (r.0, r.1, of_items n to ref items site at own refl (map-get without_first site.shape c q g' ∙ ap (λ x. Some (without_first x)) r.1))

  -- and the other way
  leaf_shape : (c : ℕ) (q : List PathStep) → HasLeaf p i 1 c q → slice_get (shape_at p (Some n)) c ≡ Some (Element ∷ q)
  leaf_shape c q leaf =
      let g = grown_leaf p wf h inside.fn inside.is i n to ref items site inside at own 0 c q leaf in
      let x = get-map without_first site.shape c q g in
      let r = elements x.0 (in_of_get site.shape c x.0 x.1) in
      let z : q ≡ r.0 = x.2 ∙ ap without_first r.1 in
      ap (λ y. slice_get y c) shape_is ∙ x.1 ∙ ap Some (r.1 ∙ ap (λ y. Element ∷ y) (sym z))

module _ (p : Code) (wf : WellFormed p) (ds : List (ℕ × ℕ × ℕ)) (exact : AreDefs p ds) (h i : ℕ) (fn : Function) (is : IsFunction p h fn) (inside : IsIn p i h) where
  abbrev Fine : Owned → Type 0
  Fine o = AsStore p h o.rule

  registers_fine : (k : ℕ) (rs : List ℕ) (o : Owned) → In o (register_copies p fn ds h i k rs) → Fine o
  registers_fine k rs o m = each_register p fn ds h i Fine o k rs m (λ l j r e g a q leaf x y. tt)

  variable_fine : (v : Option (Ident × Pos × ℕ)) (o : Owned) → In o (variable_rules h i v) → Fine o
  variable_fine None o m = elim m [ ]
  variable_fine (Some x) o m = subst Fine (sym (one-In o (owned h (Put (node i 0 0) x.2)) m)) tt

  reference_leaf : (kind : Kind) (r : ℕ) → IsAt p i kind → In r (reference_registers kind) → slice_get (leaves p h r) 0 ≡ Some []
  reference_leaf kind r at m = ap (λ qs. slice_get qs 0) (wf.references.each i h r kind inside at m)

  grow_fine : (to ref : ℕ) (items : List ℕ) → IsAt p i (Grow to ref items) → (v : Option ℕ) → own_site p i ≡ v → (o : Owned) → In o (grow_rules p fn ds h i ref items v) → Fine o
  grow_fine to ref items at None e o m = elim m [ ]
  grow_fine to ref items at (Some n) e o m =
      let shape = shape_at p (Some n) in
      let found = definitions p fn i ref ds in
      let a = copies h (node i 0 0) 0 found in
      let b = owned h (Put (node i 0 0) n) ∷ [] in
      let c = value_loads h i 2 0 shape found in
      let d = value_copies h i 1 0 shape ((i, 2) ∷ []) in
      let f = item_copies p fn ds h i shape items in
      let g = value_stores h i 1 0 shape ((i, 0) ∷ []) in
      let own = own_is p i n e in
      elim (In-append o ((((a ++ b) ++ c) ++ d) ++ f) g m) [
        | inl l ↦ elim (In-append o (((a ++ b) ++ c) ++ d) f l) [
          | inl l ↦ elim (In-append o ((a ++ b) ++ c) d l) [
            | inl l ↦ elim (In-append o (a ++ b) c l) [
              | inl l ↦ elim (In-append o a b l) [ inl l ↦ each_copies Fine o h (node i 0 0) 0 found l (λ x y. tt) | inr l ↦ subst Fine (sym (one-In o (owned h (Put (node i 0 0) n)) l)) tt ]
              | inr l ↦ each_value_loads Fine o h i 2 0 shape found l (λ c b q e g x y. tt)
            ]
            | inr l ↦ each_value_copies Fine o h i 1 0 shape ((i, 2) ∷ []) l (λ c b q e g x y. tt)
          ]
          | inr l ↦ each_item p fn ds h i Fine o shape items l (λ r n c q g x y. tt)
        ]
        | inr l ↦ each_value_stores Fine o h i 1 0 shape ((i, 0) ∷ []) l
            (λ c b q e g x y.
            let z : b ≡ c = omega (arith, e) in
            let t = shape_leaf p wf h i inside to ref items at n own.0 own.1 c q (subst (λ w. slice_get shape w ≡ Some q) z g) in
            let whole = of_kind h to (Grow to ref items) inside at refl (reference_leaf (Grow to ref items) to at (here refl)) in
            subst (λ (w : ℕ × ℕ). IsStoring p h (node w.0 w.1 0) q (node i 1 c)) (sym (one-In x (i, 0) y))
            (subst (λ w. IsStoring p h (node i 0 0) w (node i 1 c)) (sym t.1) (by_grow to ref items inside at whole t.2)))
      ]

  hand_fine : (by : Node) (n : ℕ) (callee : Callee) (args : List ℕ) (o : Owned) → In o (hand_rules p fn ds h i by n callee args) → Fine o
  hand_fine by n callee args o m = elim (In-append o (register_copies p fn ds h i n (handed_values callee args) ++ owned h (Aim i by) ∷ []) (enters fn h i by n (found_by callee args) 0 (handed_values callee args)) m) [
    | inl l ↦ elim (In-append o (register_copies p fn ds h i n (handed_values callee args)) (owned h (Aim i by) ∷ []) l) [
      | inl l ↦ registers_fine n (handed_values callee args) o l
      | inr l ↦ subst Fine (sym (one-In o (owned h (Aim i by)) l)) tt
    ]
    | inr l ↦ each_enters Fine o fn h i by n (found_by callee args) 0 (handed_values callee args) l (λ l j r e g t a q lf. tt) (λ l j r e g t. tt)
  ]

  call_fine : (by : Node) (to : List ℕ) (callee : Callee) (args : List ℕ) (o : Owned) → In o ((hand_rules p fn ds h i by (length to) callee args ++ returns fn h i by 0 to) ++ fresh_of p h i by) → Fine o
  call_fine by to callee args o m = elim (In-append o (hand_rules p fn ds h i by (length to) callee args ++ returns fn h i by 0 to) (fresh_of p h i by) m) [
    | inl l ↦ elim (In-append o (hand_rules p fn ds h i by (length to) callee args) (returns fn h i by 0 to) l) [
      | inl l ↦ hand_fine by (length to) callee args o l
      | inr l ↦ each_returns Fine o fn h i by 0 to l (λ l j r e g a q lf. tt)
    ]
    | inr l ↦ each_fresh Fine o h i by (length p.globals) (drop (length p.globals) p.sites) l (λ n b site e g k. tt)
  ]

  -- the rules of a place, kind by kind
  rule_fine : (kind : Kind) → IsAt p i kind → (o : Owned) → In o (kind_rules p fn ds h i kind) → Fine o
  rule_fine (Move to from path) at o m = each_move Fine o h i path 0 (leaves_of fn to) (leaves_of fn from) (definitions p fn i from ds) m (λ d b q e g c leaf k same x y. tt)
  rule_fine (Join to parts) at o m = each_join p fn ds h i Fine o (leaves_of fn to) parts m (λ path r d q part lasts g c leaf k same x y. tt)
  rule_fine (New to site) at o m = subst Fine (sym (one-In o (owned h (Put (node i 0 0) site)) m)) tt
  rule_fine (Step to from path) at o m = each_shifts Fine o h (node i 0 0) path (definitions p fn i from ds) m (λ x y. tt)
  rule_fine (Read to ref qs) at o m = each_value_loads Fine o h i 0 0 qs (definitions p fn i ref ds) m (λ c b q e g x y. tt)
  rule_fine (Write ref from) at o m = elim (In-append o (register_copies p fn ds h i 0 (from ∷ [])) (value_stores h i 0 0 (leaves_of fn from) (definitions p fn i ref ds)) m) [
    | inl l ↦ registers_fine 0 (from ∷ []) o l
    | inr l ↦ each_value_stores Fine o h i 0 0 (leaves_of fn from) (definitions p fn i ref ds) l
        (λ c b q e g x y.
        let z : b ≡ c = omega (arith, e) in
        let def = definition_found p wf ds exact h fn is i ref x y in
        let whole = defined_leaf p wf x.0 x.1 ref i h 0 [] def inside (reference_leaf (Write ref from) ref at (here refl)) in
        let leaf : slice_get (leaves p h from) c ≡ Some q = ap (λ w. slice_get w c) (register_leaves p h fn from is) ∙ subst (λ w. slice_get (leaves_of fn from) w ≡ Some q) z g in
        by_write ref from inside at def whole (of_kind h from (Write ref from) inside at refl leaf))
  ]
  rule_fine (Grow to ref items) at o m = grow_fine to ref items at (own_site p i) refl o m
  rule_fine (Global to k) at o m = variable_fine (slice_get p.globals k) o m
  rule_fine (Assert to from target) at o m = each_keeps Fine o h (node i 0 0) target (definitions p fn i from ds) m (λ x y. tt)
  rule_fine (Call to callee args) at o m = call_fine (reference i callee args (length to)) to callee args o m
  rule_fine (Go callee args) at o m = hand_fine (reference i callee args 0) 0 callee args o m
  rule_fine (Defer callee args) at o m = hand_fine (reference i callee args 0) 0 callee args o m
  rule_fine (Leave from) at o m = registers_fine 0 from o m
  rule_fine (Passed to callee) at o m = registers_fine 0 (to ∷ []) o m
  rule_fine _ at o m = elim m [ ]

module _ (p : Code) (wf : WellFormed p) (ds : List (ℕ × ℕ × ℕ)) (exact : AreDefs p ds) where
  -- each rule of the program
  pub stores_only : (o : Owned) → In o (rules_of p ds) → AsStore p o.function o.rule
  stores_only o m =
      let f = rule_found p ds 0 p.functions o m in
      let z : f.1 ≡ f.0 = omega (arith, f.3) in
      let is : IsFunction p f.0 f.2 = ap (slice_get p.functions) (sym z) ∙ f.4 in
      let owner = rule_owner p ds f.0 f.5 f.2 f.6 o f.10 in
      let r = wf.ranges.inside f.0 f.2 is in
      let inside : IsIn p f.5 f.0 = record { fn = f.2; is = is; low = f.7; high = omega (arith, f.8, r.0, r.1) } in
      subst (λ h. AsStore p h o.rule) (sym owner) (rule_fine p wf ds exact f.0 f.5 f.2 is inside f.6 f.9 o f.10)

  listed : (h i : ℕ) (inside : IsIn p i h) (kind : Kind) → IsAt p i kind → (o : Owned) → In o (kind_rules p inside.fn ds h i kind) → In o (rules_of p ds)
  listed h i inside kind at o m =
      let z : h ≡ 0 + h = omega arith in
      let r = wf.ranges.inside h inside.fn inside.is in
      rule_listed p ds 0 p.functions h h inside.fn i kind o z inside.is inside.low (omega (arith, inside.high, r.0, r.1)) at m

  -- each store is one
  pub stores_all : (h : ℕ) (at : Node) (path : List PathStep) (source : Node) → IsStoring p h at path source → In (owned h (Store at path source)) (rules_of p ds)
  stores_all h _ _ _ (by_write {d = d} {j = j} {i = i} {a = a} {q = q} ref from inside at def whole leaf) =
      let fn = inside.fn in
      let o = owned h (Store (node d j 0) q (node i 0 a)) in
      let m = definition_listed p wf ds exact h fn inside.is i d j ref (Write ref from) inside at (here refl) def in
      let l = node_leaf p wf h fn inside.is i 0 a from q (Write ref from) inside at refl leaf in
      listed h i inside (Write ref from) at o (In-right o (register_copies p fn ds h i 0 (from ∷ [])) (value_stores h i 0 0 (leaves_of fn from) (definitions p fn i ref ds))
      (value_stores_have h i 0 0 (leaves_of fn from) (definitions p fn i ref ds) a a q (omega arith) l (d, j) m))
  stores_all h _ _ _ (by_grow {i = i} {a = a} {q = q} to ref items inside at whole leaf) =
      let fn = inside.fn in
      let o = owned h (Store (node i 0 0) (Element ∷ q) (node i 1 a)) in
      let g = wf.grow_site i to ref items at in
      let n = own_there p i g.number g.one.site g.one.is in
      let own = own_is p i n.0 n.1 in
      let shape = shape_at p (Some n.0) in
      let found = definitions p fn i ref ds in
      let rest = (((copies h (node i 0 0) 0 found ++ owned h (Put (node i 0 0) n.0) ∷ []) ++ value_loads h i 2 0 shape found) ++ value_copies h i 1 0 shape ((i, 2) ∷ [])) ++ item_copies p fn ds h i shape items in
      let l = leaf_shape p wf h i inside to ref items at n.0 own.0 own.1 a q leaf in
      let m = In-right o rest (value_stores h i 1 0 shape ((i, 0) ∷ [])) (value_stores_have h i 1 0 shape ((i, 0) ∷ []) a a (Element ∷ q) (omega arith) l (i, 0) (here refl)) in
      listed h i inside (Grow to ref items) at o (subst (λ v. In o (grow_rules p fn ds h i ref items v)) (sym n.1) m)
