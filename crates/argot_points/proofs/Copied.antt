-- Where an instruction copies from a node to a node, it has a rule for that.
use Rattle.std.proofs.Common.{◌≡◌, ℕ, zero, suc, ◌+◌, true, List, [], ◌∷◌, ◌++◌, Some, None, Option, refl, sym, ap, ◌∙◌, inl, inr, arith, subst}
use Rattle.std.specs.Prelude.{slice_get, length, if◌then◌else◌}
use Rattle.std.specs.List.{filter_map, cons_option}
use Rattle.argot_plain.specs.Lists.{In, here, there, below, same_path, without_first}
use Rattle.argot_plain.specs.Code.{Code, IsAt, IsFunction, IsIn, IsSiteOf, by_call, found_by, handed_values, node_registers, leaves, reads, parts_registers}
use Rattle.argot_plain.specs.Nodes.{HasLeaf, of_kind, of_items}
use Rattle.argot_plain.specs.WellFormed.{WellFormed}
use Rattle.argot_plain.specs.declared.functions.Function.{Function}
use Rattle.argot_plain.specs.declared.instructions.Kind.{Kind}
use Rattle.argot_plain.specs.declared.instructions.Kind.TheVariants.{Move, Join, Write, Grow, Call, Go, Defer, Leave, Passed}
use Rattle.argot_plain.specs.declared.sites.Site.{Site}
use Rattle.argot_text.specs.declared.path.PathStep.{PathStep}
use Rattle.argot_facts.specs.Copies.{Copies, Lasts, last_here, last_there}
use Rattle.argot_facts.specs.Numbers.{node, leaves_of, own_site, shape_at}
use Rattle.argot_facts.proofs.Marked.{register_leaves, own_is, own_there}
use Rattle.argot_facts.proofs.Listed.{in_of_get, number_of, get-map}
use Rattle.argot_points_rules.specs.Column.{owned, copies, value_copies, value_loads, value_stores, register_copies, item_copies, definitions, kind_rules, grow_rules, hand_rules, reference, enters, returns, fresh_of}
use Rattle.argot_points_rules.specs.declared.rules.Rule.TheVariants.{Put, Copy, Aim}
use Rattle.argot_points.proofs.Columns.{same_path_self, same_step_self}
use Rattle.argot_points.proofs.Each.{In-left, In-right, copies_have}
use Rattle.argot_points.proofs.Pieces.{move_have, join_have, register_have, item_have}
use Rattle.argot_points.proofs.LeafOf.{node_leaf, grown_leaf}
use Rattle.argot_points.proofs.Justified.{handed_register}

-- what stands below a path in a list of paths
below_self : (path q : List PathStep) → below path (path ++ q) ≡ Some q
below_self [] q = refl
below_self (s ∷ path) q = ap (λ b. if b then below path (path ++ q) else None) (same_step_self s) ∙ below_self path q

picked : (path q : List PathStep) (xs : List (List PathStep)) → In (path ++ q) xs → In q (filter_map (below path) xs)
picked path q [] m = elim m [ ]
picked path q (x ∷ xs) (here e) = subst (λ o. In q (cons_option o (filter_map (below path) xs))) (sym (ap (below path) (sym e) ∙ below_self path q)) (here refl)
picked path q (x ∷ xs) (there m) = onto (below path x) (picked path q xs m)
  where
    onto : (o : Option (List PathStep)) → In q (filter_map (below path) xs) → In q (cons_option o (filter_map (below path) xs))
    onto None m = m
    onto (Some y) m = there m

part_read : (path : List PathStep) (r : ℕ) (q : List PathStep) (parts : List (List PathStep × ℕ)) → Lasts path r q parts → In r (parts_registers parts)
part_read path r q (x ∷ parts) (last_here e f v) = here (sym f)
part_read path r q (x ∷ parts) (last_there l) = there (part_read path r q parts l)
part_read path r q [] l = elim l [ ]

part_listed : (path : List PathStep) (r : ℕ) (q : List PathStep) (parts : List (List PathStep × ℕ)) → Lasts path r q parts → In {A = List PathStep × ℕ} (path, r) parts
part_listed path r q (x ∷ parts) (last_here e f v) = here (ap (λ (w : List PathStep). (w, r)) (sym e) ∙ ap (λ (w : ℕ). (x.0, w)) (sym f))
part_listed path r q (x ∷ parts) (last_there l) = there (part_listed path r q parts l)
part_listed path r q [] l = elim l [ ]

-- a register that is copied from is read
pub copied_read : (kind : Kind) (r : ℕ) (q : List PathStep) (k : ℕ) (q' : List PathStep) → Copies kind r q k q' → In r (reads kind)
copied_read (Move to from path) r q k q' c = here c.0
copied_read (Join to parts) r q k q' c = part_read c.0 r q' parts c.1
copied_read (Write ref from) r q k q' c = there (here c.0)
copied_read (Grow to ref items) r q k q' (inl c) = here c.0
copied_read (Grow to ref items) r q k q' (inr c) = there c.0
copied_read (Call to callee args) r q k q' c = in_of_get (handed_values callee args) c.0 r c.1
copied_read (Go callee args) r q k q' c = in_of_get (handed_values callee args) k r c.0
copied_read (Defer callee args) r q k q' c = in_of_get (handed_values callee args) k r c.0
copied_read (Leave from) r q k q' c = in_of_get from k r c.0
copied_read (Passed to callee) r q k q' c = here c.0
copied_read _ r q k q' c = elim c [ ]

pub first_alone : (a : ℕ) (q : List PathStep) → slice_get ([] ∷ []) a ≡ Some q → a ≡ 0
first_alone zero q e = refl
first_alone (suc a) q e = absurd cc

abbrev shape_in : Site → List (List PathStep)
shape_in site = site.shape

module _ (p : Code) (wf : WellFormed p) (ds : List (ℕ × ℕ × ℕ)) (h i : ℕ) (fn : Function) (is : IsFunction p h fn) (inside : IsIn p i h) where
  leaf_of : (r a : ℕ) (q : List PathStep) → slice_get (leaves_of fn r) a ≡ Some q → slice_get (leaves p h r) a ≡ Some q
  leaf_of r a q e = ap (λ x. slice_get x a) (register_leaves p h fn r is) ∙ e

  own : (kind : Kind) (k r a : ℕ) (q : List PathStep) → IsAt p i kind → slice_get (node_registers kind) k ≡ Some r → slice_get (leaves_of fn r) a ≡ Some q → HasLeaf p i k a q
  own kind k r a q at reg leaf = of_kind h r kind inside at reg (leaf_of r a q leaf)

  -- the node to which is copied
  abbrev pub IsThere : ℕ → List PathStep → Type 0
  IsThere k q = (a : ℕ) × HasLeaf p i k a q

  registers_of : (kind : Kind) (k r b : ℕ) (q q' : List PathStep) → IsAt p i kind → slice_get (node_registers kind) k ≡ Some r → q' ≡ q → slice_get (leaves_of fn r) b ≡ Some q → IsThere k q'
  registers_of kind k r b q q' at reg e leaf = (b, own kind k r b q' at reg (leaf ∙ ap Some (sym e)))

  pub copied_node : (kind : Kind) (r b : ℕ) (q : List PathStep) (k : ℕ) (q' : List PathStep) → IsAt p i kind → Copies kind r q k q' → slice_get (leaves_of fn r) b ≡ Some q → IsThere k q'
  copied_node (Move to from path) r b q k q' at c leaf =
      let m : In (path ++ q') (leaves p h from) = in_of_get (leaves p h from) b (path ++ q') (leaf_of from b (path ++ q') (ap (λ x. slice_get (leaves_of fn x) b) (sym c.0) ∙ leaf ∙ ap Some c.2)) in
      let n = number_of q' (leaves p h to) (subst (λ xs. In q' xs) (sym (wf.move_leaves i h to from path inside at)) (picked path q' (leaves p h from) m)) in
      (n.0, of_kind h to (Move to from path) inside at (ap (slice_get (to ∷ [])) c.1) n.1)
  copied_node (Join to parts) r b q k q' at c leaf =
      let m = wf.join_leaves i h to r parts c.0 q inside at (part_listed c.0 r q' parts c.1) (in_of_get (leaves p h r) b q (leaf_of r b q leaf)) in
      let n = number_of q' (leaves p h to) (subst (λ x. In x (leaves p h to)) (sym c.3) m) in
      (n.0, of_kind h to (Join to parts) inside at (ap (slice_get (to ∷ [])) c.2) n.1)
  copied_node (Write ref from) r b q k q' at c leaf = registers_of (Write ref from) k r b q q' at (ap (slice_get (from ∷ [])) c.1 ∙ ap Some (sym c.0)) c.2 leaf
  copied_node (Grow to ref items) r b q k q' at (inl c) leaf =
      (0, of_kind h to (Grow to ref items) inside at (ap (slice_get (to ∷ [])) c.1) (ap (λ x. slice_get x 0) (wf.references.each i h to (Grow to ref items) inside at (here refl)) ∙ ap Some (sym c.3)))
  copied_node (Grow to ref items) r b q k q' at (inr c) leaf =
      let g = (wf.grow_site i to ref items at).one in
      (b, of_items (wf.grow_site i to ref items at).number to ref items g.site at g.is c.1 (ap (λ x. slice_get x b) (sym (wf.grow_leaves i h (wf.grow_site i to ref items at).number to ref r items g.site inside at g.is c.0)) ∙ leaf_of r b q leaf ∙ ap Some (sym c.2)))
  copied_node (Call to callee args) r b q k q' at c leaf = registers_of (Call to callee args) k r b q q' at (ap (slice_get (to ++ handed_values callee args)) c.2 ∙ handed_register (Call to callee args) callee args (length to) c.0 r by_call c.1) c.3 leaf
  copied_node (Go callee args) r b q k q' at c leaf = registers_of (Go callee args) k r b q q' at c.0 c.1 leaf
  copied_node (Defer callee args) r b q k q' at c leaf = registers_of (Defer callee args) k r b q q' at c.0 c.1 leaf
  copied_node (Leave from) r b q k q' at c leaf = registers_of (Leave from) k r b q q' at c.0 c.1 leaf
  copied_node (Passed to callee) r b q k q' at c leaf = registers_of (Passed to callee) k r b q q' at (ap (slice_get (to ∷ [])) c.1 ∙ ap Some (sym c.0)) c.2 leaf
  copied_node _ r b q k q' at c leaf = elim c [ ]

  pub shape_is : (n : ℕ) (site : Site) → slice_get p.sites n ≡ Some site → shape_at p (Some n) ≡ site.shape
  shape_is n site e = ap (λ v. elim v as (λ x. List (List PathStep)) [ None ↦ [] | Some x ↦ shape_in x ]) e

  -- the rule that copies to its leaf a, from a leaf of the definition
  abbrev pub HasRule : Kind → ℕ → ℕ → ℕ → ℕ → ℕ → List PathStep → Type 0
  HasRule kind r d j k a q = (b : ℕ) × (slice_get (leaves_of fn r) b ≡ Some q) × In (owned h (Copy (node i k a) (node d j b))) (kind_rules p fn ds h i kind)

  -- the leaf of a register that the place has as a node, and the rule of the same leaf
  abbrev IsLeafOf : ℕ → ℕ → List PathStep → Type 0
  IsLeafOf r a q = slice_get (leaves_of fn r) a ≡ Some q

  pub copied_rule : (kind : Kind) (r d j b : ℕ) (q : List PathStep) (k : ℕ) (q' : List PathStep) → IsAt p i kind → Copies kind r q k q' → In {A = ℕ × ℕ} (d, j) (definitions p fn i r ds) → slice_get (leaves_of fn r) b ≡ Some q
      → (a : ℕ) → HasLeaf p i k a q' → HasRule kind r d j k a q
  copied_rule (Move to from path) r d j b q k q' at c m leaf a has =
      let has' = subst (λ w. HasLeaf p i w a q') c.1 has in
      let source : IsLeafOf from b q = ap (λ x. slice_get (leaves_of fn x) b) (sym c.0) ∙ leaf in
      let rule = move_have h i path 0 (leaves_of fn to) (leaves_of fn from) (definitions p fn i from ds) a a q' (omega arith) (node_leaf p wf h fn is i 0 a to q' (Move to from path) inside at refl has') b q source
      (subst (λ w. same_path w (path ++ q') ≡ true) (sym c.2) (same_path_self (path ++ q'))) (d, j) (subst (λ w. In {A = ℕ × ℕ} (d, j) (definitions p fn i w ds)) c.0 m) in
      (b, leaf, subst (λ w. In (owned h (Copy (node i w a) (node d j b))) (kind_rules p fn ds h i (Move to from path))) (sym c.1) rule)
  copied_rule (Join to parts) r d j b q k q' at c m leaf a has =
      let has' = subst (λ w. HasLeaf p i w a q') c.2 has in
      let rule = join_have p fn ds h i (leaves_of fn to) parts c.0 r a q' c.1 (node_leaf p wf h fn is i 0 a to q' (Join to parts) inside at refl has') b q leaf
      (subst (λ w. same_path q' w ≡ true) c.3 (same_path_self q')) (d, j) m in
      (b, leaf, subst (λ w. In (owned h (Copy (node i w a) (node d j b))) (kind_rules p fn ds h i (Join to parts))) (sym c.2) rule)
  copied_rule (Write ref from) r d j b q k q' at c m leaf a has =
      let has' = subst (λ w. HasLeaf p i w a q') c.1 has in
      let own = node_leaf p wf h fn is i 0 a from q' (Write ref from) inside at refl has' in
      let z : 0 ≡ 0 + 0 = omega arith in
      let rule = register_have p fn ds h i 0 (from ∷ []) 0 0 from z refl a q' own (d, j) (subst (λ w. In {A = ℕ × ℕ} (d, j) (definitions p fn i w ds)) c.0 m) in (
        a,
        ap (λ x. slice_get (leaves_of fn x) a) c.0 ∙ own ∙ ap Some c.2,
        subst (λ w. In (owned h (Copy (node i w a) (node d j a))) (kind_rules p fn ds h i (Write ref from))) (sym c.1)
            (In-left (owned h (Copy (node i 0 a) (node d j a))) (register_copies p fn ds h i 0 (from ∷ [])) (value_stores h i 0 0 (leaves_of fn from) (definitions p fn i ref ds)) rule),
      )
  copied_rule (Leave from) r d j b q k q' at c m leaf a has =
      let own = node_leaf p wf h fn is i k a r q' (Leave from) inside at c.0 has in
      let z : k ≡ 0 + k = omega arith in
      (a, own ∙ ap Some c.1, register_have p fn ds h i 0 from k k r z c.0 a q' own (d, j) m)
  copied_rule (Passed to callee) r d j b q k q' at c m leaf a has =
      let reg : slice_get (to ∷ []) k ≡ Some r = ap (slice_get (to ∷ [])) c.1 ∙ ap Some (sym c.0) in
      let own = node_leaf p wf h fn is i k a r q' (Passed to callee) inside at reg has in
      let z : k ≡ 0 + k = omega arith in
      (a, own ∙ ap Some c.2, register_have p fn ds h i 0 (to ∷ []) k k r z reg a q' own (d, j) m)
  copied_rule (Go callee args) r d j b q k q' at c m leaf a has =
      let own = node_leaf p wf h fn is i k a r q' (Go callee args) inside at c.0 has in
      let z : k ≡ 0 + k = omega arith in
      let by = reference i callee args 0 in
      let rule = register_have p fn ds h i 0 (handed_values callee args) k k r z c.0 a q' own (d, j) m in (
        a,
        own ∙ ap Some c.1,
        In-left (owned h (Copy (node i k a) (node d j a))) (register_copies p fn ds h i 0 (handed_values callee args) ++ owned h (Aim i by) ∷ []) (enters fn h i by 0 (found_by callee args) 0 (handed_values callee args))
            (In-left (owned h (Copy (node i k a) (node d j a))) (register_copies p fn ds h i 0 (handed_values callee args)) (owned h (Aim i by) ∷ []) rule),
      )
  copied_rule (Defer callee args) r d j b q k q' at c m leaf a has =
      let own = node_leaf p wf h fn is i k a r q' (Defer callee args) inside at c.0 has in
      let z : k ≡ 0 + k = omega arith in
      let by = reference i callee args 0 in
      let rule = register_have p fn ds h i 0 (handed_values callee args) k k r z c.0 a q' own (d, j) m in (
        a,
        own ∙ ap Some c.1,
        In-left (owned h (Copy (node i k a) (node d j a))) (register_copies p fn ds h i 0 (handed_values callee args) ++ owned h (Aim i by) ∷ []) (enters fn h i by 0 (found_by callee args) 0 (handed_values callee args))
            (In-left (owned h (Copy (node i k a) (node d j a))) (register_copies p fn ds h i 0 (handed_values callee args)) (owned h (Aim i by) ∷ []) rule),
      )
  copied_rule (Call to callee args) r d j b q k q' at c m leaf a has =
      let reg : slice_get (to ++ handed_values callee args) k ≡ Some r = ap (slice_get (to ++ handed_values callee args)) c.2 ∙ handed_register (Call to callee args) callee args (length to) c.0 r by_call c.1 in
      let own = node_leaf p wf h fn is i k a r q' (Call to callee args) inside at reg has in
      let by = reference i callee args (length to) in
      let rule = register_have p fn ds h i (length to) (handed_values callee args) k c.0 r c.2 c.1 a q' own (d, j) m in
      let o = owned h (Copy (node i k a) (node d j a)) in (
        a,
        own ∙ ap Some c.3,
        In-left o (hand_rules p fn ds h i by (length to) callee args ++ returns fn h i by 0 to) (fresh_of p h i by)
            (In-left o (hand_rules p fn ds h i by (length to) callee args) (returns fn h i by 0 to)
            (In-left o (register_copies p fn ds h i (length to) (handed_values callee args) ++ owned h (Aim i by) ∷ []) (enters fn h i by (length to) (found_by callee args) 0 (handed_values callee args))
            (In-left o (register_copies p fn ds h i (length to) (handed_values callee args)) (owned h (Aim i by) ∷ []) rule))),
      )
  copied_rule (Grow to ref items) r d j b q k q' at c m leaf a has = grown (own_site p i) refl c
    where
      w : (n : ℕ) × (site : Site) × IsSiteOf p i n site
      w = let g = wf.grow_site i to ref items at in (g.number, g.one.site, g.one.is)

      grown : (o : Option ℕ) → own_site p i ≡ o → Copies (Grow to ref items) r q k q' → HasRule (Grow to ref items) r d j k a q
      grown None e c = let t = own_there p i w.0 w.1 w.2 in let y : Some t.0 ≡ None = sym t.1 ∙ e in absurd cc
      grown (Some n) e c = subst (λ v. (b : ℕ) × (slice_get (leaves_of fn r) b ≡ Some q) × In (owned h (Copy (node i k a) (node d j b))) (grow_rules p fn ds h i ref items v)) (sym e) (by_form c)
        where
          by_form : Copies (Grow to ref items) r q k q' → (b : ℕ) × (slice_get (leaves_of fn r) b ≡ Some q) × In (owned h (Copy (node i k a) (node d j b))) (grow_rules p fn ds h i ref items (Some n))
          by_form (inl c) =
              let shape = shape_at p (Some n) in
              let found = definitions p fn i ref ds in
              let own = node_leaf p wf h fn is i 0 a to q' (Grow to ref items) inside at refl (subst (λ w. HasLeaf p i w a q') c.1 has) in
              let one : slice_get ([] ∷ []) a ≡ Some q' = ap (λ x. slice_get x a) (sym (wf.references.each i h to (Grow to ref items) inside at (here refl))) ∙ leaf_of to a q' own in
              let z : a ≡ 0 = first_alone a q' one in
              let source : slice_get (leaves_of fn r) 0 ≡ Some q = ap (λ x. slice_get (leaves_of fn x) 0) c.0 ∙ ap (λ x. slice_get x 0) (sym (register_leaves p h fn ref is)) ∙ ap (λ x. slice_get x 0) (wf.references.each i h ref (Grow to ref items) inside at (there (here refl))) ∙ ap Some (sym c.2) in
              let o = owned h (Copy (node i 0 0) (node d j 0)) in
              let rule = copies_have h (node i 0 0) 0 found (d, j) (subst (λ w. In {A = ℕ × ℕ} (d, j) (definitions p fn i w ds)) c.0 m) in
              let A = copies h (node i 0 0) 0 found in
              let B = owned h (Put (node i 0 0) n) ∷ [] in
              let C = value_loads h i 2 0 shape found in
              let D = value_copies h i 1 0 shape ((i, 2) ∷ []) in
              let F = item_copies p fn ds h i shape items in
              let G = value_stores h i 1 0 shape ((i, 0) ∷ []) in
              let there = In-left o ((((A ++ B) ++ C) ++ D) ++ F) G (In-left o (((A ++ B) ++ C) ++ D) F (In-left o ((A ++ B) ++ C) D (In-left o (A ++ B) C (In-left o A B rule)))) in
              (0, source, subst (λ w. In (owned h (Copy (node i w a) (node d j 0))) (grow_rules p fn ds h i ref items (Some n))) (sym c.1) (subst (λ w. In (owned h (Copy (node i 0 w) (node d j 0))) (grow_rules p fn ds h i ref items (Some n))) (sym z) there))
          by_form (inr c) =
              let shape = shape_at p (Some n) in
              let found = definitions p fn i ref ds in
              let s = own_is p i n e in
              let own = grown_leaf p wf h fn is i n to ref items s.0 inside at s.1 0 a q' (subst (λ w. HasLeaf p i w a q') c.1 has) in
              let x = get-map without_first s.0.shape a q' own in
              let stands : slice_get shape a ≡ Some x.0 = ap (λ y. slice_get y a) (shape_is n s.0 s.1.is) ∙ x.1 in
              let source : slice_get (leaves_of fn r) a ≡ Some q = ap (λ y. slice_get y a) (sym (register_leaves p h fn r is) ∙ wf.grow_leaves i h n to ref r items s.0 inside at s.1 c.0) ∙ own ∙ ap Some c.2 in
              let o = owned h (Copy (node i 1 a) (node d j a)) in
              let rule = item_have p fn ds h i shape items r c.0 a x.0 stands (d, j) m in
              let A = copies h (node i 0 0) 0 found in
              let B = owned h (Put (node i 0 0) n) ∷ [] in
              let C = value_loads h i 2 0 shape found in
              let D = value_copies h i 1 0 shape ((i, 2) ∷ []) in
              let F = item_copies p fn ds h i shape items in
              let G = value_stores h i 1 0 shape ((i, 0) ∷ []) in
              let there = In-left o ((((A ++ B) ++ C) ++ D) ++ F) G (In-right o (((A ++ B) ++ C) ++ D) F rule) in
              (a, source, subst (λ w. In (owned h (Copy (node i w a) (node d j a))) (grow_rules p fn ds h i ref items (Some n))) (sym c.1) there)
  copied_rule _ r d j b q k q' at c m leaf a has = elim c [ ]
