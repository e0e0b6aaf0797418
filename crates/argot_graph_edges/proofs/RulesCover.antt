-- Each edge but those of operations, of externals and of objects has a rule.
use Rattle.std.proofs.Common.{◌≡◌, ℕ, zero, suc, ◌+◌, ◌<◌, ◌≤◌, Bool, true, false, List, [], ◌∷◌, ◌++◌, Some, None, Option, refl, sym, ap, ◌∙◌, inl, inr, arith, subst}
use Rattle.std.specs.Prelude.{◌⊎◌, slice_get, length}
use Rattle.argot_plain.specs.Lists.{In, here, there, member, without_first}
use Rattle.argot_plain.specs.Code.{Code, IsAt, IsFunction, IsIn, IsSiteOf, Hands, by_call, by_go, by_defer, found_by, arguments, handed_values, node_registers, element_leaves, kind_of, param_of, reads, takes_reference}
use Rattle.argot_plain.specs.Counts.{cleans}
use Rattle.argot_plain.specs.Leak.{LooksInside}
use Rattle.argot_plain.specs.Nodes.{Mark, mark, HasLeaf, of_kind, of_items, of_elements, of_entry}
use Rattle.argot_plain.specs.WellFormed.{WellFormed, reference_registers}
use Rattle.argot_plain.specs.declared.functions.Function.{Function}
use Rattle.argot_plain.specs.declared.instructions.Callee.{Callee}
use Rattle.argot_plain.specs.declared.instructions.Instr.{Instr}
use Rattle.argot_plain.specs.declared.instructions.Kind.{Kind}
use Rattle.argot_plain.specs.declared.instructions.Kind.TheVariants.{Op, Step, Read, Grow, Assert, Call, Go, Leave, Goto, Passed}
use Rattle.argot_plain.specs.declared.problems.Problem.{Problem}
use Rattle.argot_plain.specs.declared.sites.Site.{Site}
use Rattle.argot_text.specs.declared.path.PathStep.{PathStep}
use Rattle.argot_text.specs.declared.path.PathStep.TheVariants.{Element}
use Rattle.argot_facts.specs.Copies.{Copies, Takes}
use Rattle.argot_facts.specs.Edges.{MovesBy, plain, grown, call, go, return, external, by_object, by_argument, CallsLikewise, a_call, a_defer, WritesBy, IsReadBy, MayMeetBy, ReachableBy, ReadAt}
use Rattle.argot_facts.specs.Exact.{AreDefs}
use Rattle.argot_facts.specs.Graphs.{IsMarked}
use Rattle.argot_facts.specs.Handed.{FactsOf, IsTakenAt}
use Rattle.argot_facts.specs.Numbers.{node, leaves_of, own_site, shape_at}
use Rattle.argot_facts.specs.Pointing.{Pointing}
use Rattle.argot_facts.specs.Reaching.{DefinedAt}
use Rattle.argot_facts.specs.Refers.{Fact, Targets, IsLivePlaceIn}
use Rattle.argot_facts.specs.declared.graphs.EdgeKind.{EdgeKind}
use Rattle.argot_facts.specs.declared.graphs.EdgeKind.TheVariants.{Plain, Call as Enters, Return as Returns, Reset}
use Rattle.argot_facts.specs.declared.nodes.Node.{Node}
use Rattle.argot_facts.proofs.Calls.{same_kind, taken_once}
use Rattle.argot_facts.proofs.Listed.{in_of_get, get-map, get_at, get_within}
use Rattle.argot_facts.proofs.Marked.{register_leaves, own_is, own_there}
use Rattle.argot_facts.proofs.Placed.{one_function, place_in}
use Rattle.argot_points_rules.specs.Column.{owned, copies, value_copies, value_loads, value_stores, register_copies, item_copies, definitions, kind_rules, grow_rules, hand_rules, reference, is_value, enters, returns, fresh_of, rules_of}
use Rattle.argot_points_rules.specs.declared.rules.Owned.{Owned}
use Rattle.argot_points_rules.specs.declared.rules.Rule.{Rule}
use Rattle.argot_points_rules.specs.declared.rules.Rule.TheVariants.{Put, Copy, Shift, Keep, Load, Aim, Enter, Choose, Return}
use Rattle.argot_points.proofs.Chosen.{value_is, found_leaves}
use Rattle.argot_points.proofs.Copied.{copied_read, copied_rule, first_alone, shape_is}
use Rattle.argot_points.proofs.Defined.{definition_listed, entry_inside}
use Rattle.argot_points.proofs.Each.{In-left, In-right, shifts_have, keeps_have, value_loads_have, value_copies_have}
use Rattle.argot_points.proofs.Handed.{enters_have, chooses_have, returns_have, rule_listed}
use Rattle.argot_points.proofs.Justified.{get-front, get-behind}
use Rattle.argot_points.proofs.LeafOf.{node_leaf, definition_leaf, grown_leaf, leaf_there, never_entry}
use Rattle.argot_graph_edges.specs.Rows.{Moving, Entering, RuleRow, IsCallAt, entering, is_barred}
use Rattle.argot_graph_edges.proofs.Calling.{one_leaf}

-- the rows that have no rule, with their premises: of an operation, of an external, of objects
pub data IsOther (p : Code) (D : ℕ → ℕ → ℕ → ℕ → Type 0) (F : Fact → Type 0) (pr : Problem) : Mark → EdgeKind → Mark → Type 0 where
  other_op : {d j i : ℕ} {q : List PathStep} → (r to : ℕ) → (from : List ℕ)
      → IsLivePlaceIn p F i → IsAt p i (Op to from) → member r from ≡ true → D d j r i → IsOther p D F pr (mark d j q) Plain (mark i 0 [])
  other_external : {i j : ℕ} {q q' : List PathStep} → (k target : ℕ) → (takes : Bool) → (to args : List ℕ) → (callee : Callee) → (fn : Function)
      → IsAt p i (Call to callee args) → F (Targets i target takes) → IsFunction p target fn → fn.external ≡ Some true → cleans p pr i target ≡ false
      → k < length (arguments callee args) → j < length to
      → IsOther p D F pr (mark i (length to + k) q) Plain (mark i j q')
  other_object : {m n : Mark} → (s : ℕ) → (path : List PathStep) → WritesBy p D F m s path → IsReadBy p D F n s path → MayMeetBy p F s m.place n.place → IsOther p D F pr m Reset n
  other_argument : {m : Mark} {i : ℕ} {q : List PathStep} → (k s target n at : ℕ) → (takes : Bool) → (path : List PathStep) → (kind : Kind) → (callee : Callee) → (args : List ℕ)
      → IsAt p i kind → Hands kind callee args n → F (Targets i target takes) → LooksInside p pr i target → k < length (arguments callee args) → HasLeaf p i (n + k) 0 q
      → ReachableBy p F i (n + k) s → WritesBy p D F m s path → ReadAt p i at → MayMeetBy p F s m.place at
      → IsOther p D F pr m Reset (mark i (n + k) q)

-- what stands behind the results is handed on
behind_results : (kind : Kind) (callee : Callee) (args : List ℕ) (n k r : ℕ) → Hands kind callee args n → slice_get (node_registers kind) (n + k) ≡ Some r → slice_get (handed_values callee args) k ≡ Some r
behind_results kind callee args n k r (by_call {to = to}) e = sym (get-behind to (handed_values callee args) k) ∙ e
behind_results kind callee args n k r by_go e = let z : k ≡ 0 + k = omega arith in ap (slice_get (handed_values callee args)) z ∙ e
behind_results kind callee args n k r by_defer e = let z : k ≡ 0 + k = omega arith in ap (slice_get (handed_values callee args)) z ∙ e

only_leaf : (a : ℕ) (q : List PathStep) → slice_get ([] ∷ []) a ≡ Some q → (a ≡ 0) × (q ≡ [])
only_leaf zero q e = (refl, cc)
only_leaf (suc a) q e = absurd cc

-- a node by its mark and its leaf
node_is : (p : Code) (a : Node) (i k : ℕ) (q : List PathStep) → IsMarked p a (mark i k q) → a ≡ node i k a.leaf
node_is p a i k q m = ap (λ w. node w a.index a.leaf) m.place ∙ ap (λ w. node i w a.leaf) m.index

-- a place at which something stands
place_within : (p : Code) (i : ℕ) (kind : Kind) → IsAt p i kind → i < length p.instrs
place_within p i kind at = within (slice_get p.instrs i) refl
  where
    within : (o : Option Instr) → slice_get p.instrs i ≡ o → i < length p.instrs
    within (Some x) h = get_within p.instrs i x h
    within None h = let z : kind_of None ≡ Some kind = sym (ap kind_of h) ∙ at in absurd cc

module _ (p : Code) (wf : WellFormed p) (x : Pointing) (pr : Problem) (ds : List (ℕ × ℕ × ℕ)) (exact : AreDefs p ds) where
  -- a rule has the row
  abbrev pub HasRule : Node → EdgeKind → Node → Type 0
  HasRule a kind b = (o : Owned) × In o (rules_of p ds) × RuleRow p x pr o.function o.rule a kind b

  abbrev Other : Mark → EdgeKind → Mark → Type 0
  Other = IsOther p (DefinedAt p) (FactsOf p x) pr

  function_of : (i : ℕ) (kind : Kind) → IsAt p i kind → (h : ℕ) × IsIn p i h
  function_of i kind at = let w = wf.entry_function in place_in p wf.ranges w.fn w.is i (place_within p i kind at)

  module _ (h i : ℕ) (fn : Function) (is : IsFunction p h fn) (inside : IsIn p i h) where
    -- a rule of a place is one of the program
    listed : (kind : Kind) (o : Owned) → IsAt p i kind → In o (kind_rules p fn ds h i kind) → In o (rules_of p ds)
    listed kind o at m =
        let f : Some inside.fn ≡ Some fn = sym inside.is ∙ is in
        let g : inside.fn ≡ fn = cc in
        let low = subst (λ (w : Function). w.entry ≤ i) g inside.low in
        let high = subst (λ (w : Function). i ≤ w.leave) g inside.high in
        let z : h ≡ 0 + h = omega arith in
        rule_listed p ds 0 p.functions h h fn i kind o z is low (omega (arith, low, high)) at m

    -- data that moves
    moves : (a b : Node) (kind : Kind) (source to : Node) (rule : Rule) → IsAt p i kind → In h x.live → a ≡ source → b ≡ to → In (owned h rule) (kind_rules p fn ds h i kind)
        → (Moving p x pr h source to a Plain b → RuleRow p x pr h rule a Plain b) → HasRule a Plain b
    moves a b kind source to rule at live e f m row = (owned h rule, listed kind (owned h rule) at m, row (record { live = live; just = (e, refl, f) }))

    def_listed : (kind : Kind) (r d j : ℕ) → IsAt p i kind → In r (reads kind) → DefinedAt p d j r i → In {A = ℕ × ℕ} (d, j) (definitions p fn i r ds)
    def_listed kind r d j at m def = definition_listed p wf ds exact h fn is i d j r kind inside at m def

    -- the one leaf of a reference
    alone : (kind : Kind) (r a : ℕ) (q : List PathStep) → IsAt p i kind → In r (reference_registers kind) → slice_get (leaves_of fn r) a ≡ Some q → a ≡ 0
    alone kind r a q at m leaf =
        first_alone a q (ap (λ y. slice_get y a) (sym (wf.references.each i h r kind inside at m)) ∙ ap (λ y. slice_get y a) (register_leaves p h fn r is) ∙ leaf)

    alone_def : (kind : Kind) (r d j : ℕ) (q : List PathStep) (a : Node) → IsAt p i kind → In r (reference_registers kind) → DefinedAt p d j r i → IsMarked p a (mark d j q) → a ≡ node d j 0
    alone_def kind r d j q a at m def marked =
        node_is p a d j q marked ∙ ap (node d j) (alone kind r a.leaf q at m (definition_leaf p wf h fn is d j r i a.leaf q def inside marked.has))

    alone_own : (kind : Kind) (r : ℕ) (q : List PathStep) (b : Node) → IsAt p i kind → slice_get (node_registers kind) 0 ≡ Some r → In r (reference_registers kind) → IsMarked p b (mark i 0 q) → b ≡ node i 0 0
    alone_own kind r q b at reg m marked = node_is p b i 0 q marked ∙ ap (node i 0) (alone kind r b.leaf q at m (node_leaf p wf h fn is i 0 b.leaf r q kind inside at reg marked.has))

    copy_covered : (a b : Node) (d j r k : ℕ) (q q' : List PathStep) (kind : Kind) → IsAt p i kind → In h x.live → Copies kind r q k q' → is_barred pr (Some kind) ≡ false → DefinedAt p d j r i
        → IsMarked p a (mark d j q) → IsMarked p b (mark i k q') → HasRule a Plain b
    copy_covered a b d j r k q q' kind at live copy free def from to =
        let leaf = definition_leaf p wf h fn is d j r i a.leaf q def inside from.has in
        let rule = copied_rule p wf ds h i fn is inside kind r d j a.leaf q k q' at copy (def_listed kind r d j at (copied_read kind r q k q' copy) def) leaf b.leaf to.has in
        let z : a.leaf ≡ rule.0 = one_leaf p wf h r a.leaf rule.0 fn q is leaf rule.1 in
        moves a b kind (node d j rule.0) (node i k b.leaf) (Copy (node i k b.leaf) (node d j rule.0)) at live (node_is p a d j q from ∙ ap (node d j) z) (node_is p b i k q' to) rule.2
        (λ m. (subst (λ w. is_barred pr w ≡ false) (sym at) free, m))

    step_covered : (a b : Node) (d j to from : ℕ) (q q' path : List PathStep) → IsAt p i (Step to from path) → In h x.live → DefinedAt p d j from i → IsMarked p a (mark d j q) → IsMarked p b (mark i 0 q') → HasRule a Plain b
    step_covered a b d j to from q q' path at live def f g =
        moves a b (Step to from path) (node d j 0) (node i 0 0) (Shift (node i 0 0) (node d j 0) path) at live
        (alone_def (Step to from path) from d j q a at (there (here refl)) def f) (alone_own (Step to from path) to q' b at refl (here refl) g)
        (shifts_have h (node i 0 0) path (definitions p fn i from ds) (d, j) (def_listed (Step to from path) from d j at (here refl) def)) (λ m. m)

    assert_covered : (a b : Node) (d j to from target : ℕ) (q q' : List PathStep) → IsAt p i (Assert to from target) → In h x.live → DefinedAt p d j from i → IsMarked p a (mark d j q) → IsMarked p b (mark i 0 q') → HasRule a Plain b
    assert_covered a b d j to from target q q' at live def f g =
        moves a b (Assert to from target) (node d j 0) (node i 0 0) (Keep (node i 0 0) (node d j 0) target) at live
        (alone_def (Assert to from target) from d j q a at (there (here refl)) def f) (alone_own (Assert to from target) to q' b at refl (here refl) g)
        (keeps_have h (node i 0 0) target (definitions p fn i from ds) (d, j) (def_listed (Assert to from target) from d j at (here refl) def)) (λ m. m)

    read_covered : (a b : Node) (d j to ref : ℕ) (q q' : List PathStep) (qs : List (List PathStep)) → IsAt p i (Read to ref qs) → In h x.live → DefinedAt p d j ref i → IsMarked p a (mark d j q) → IsMarked p b (mark i 0 q') → HasRule a Plain b
    read_covered a b d j to ref q q' qs at live def f g =
        let kind = Read to ref qs in
        let l = node_leaf p wf h fn is i 0 b.leaf to q' (Read to ref qs) inside at refl g.has in
        let same = wf.read_leaves i h to ref qs inside at in
        moves a b (Read to ref qs) (node d j 0) (node i 0 b.leaf) (Load (node i 0 b.leaf) (node d j 0) q') at live
        (alone_def (Read to ref qs) ref d j q a at (here refl) def f) (node_is p b i 0 q' g)
        (value_loads_have h i 0 0 qs (definitions p fn i ref ds) b.leaf b.leaf q' (omega arith) (ap (λ ls. slice_get ls b.leaf) (same ∙ register_leaves p h fn to is) ∙ l) (d, j) (def_listed (Read to ref qs) ref d j at (here refl) def))
        (λ m. (refl, m))

    -- a plain row but of an operation
    plain_covered : (a b : Node) (d j r k : ℕ) (q q' : List PathStep) (kind : Kind) → IsLivePlaceIn p (FactsOf p x) i → IsAt p i kind → In h x.live → Takes pr kind r q k q' → DefinedAt p d j r i
        → IsMarked p a (mark d j q) → IsMarked p b (mark i k q') → HasRule a Plain b ⊎ Other (mark d j q) Plain (mark i k q')
    plain_covered a b d j r k q q' (Op to from) place at live t def f g =
        inr (subst (λ w. Other (mark d j q) Plain (mark i w q')) (sym t.1) (subst (λ w. Other (mark d j q) Plain (mark i 0 w)) (sym t.2) (other_op r to from place at t.0 def)))
    plain_covered a b d j r k q q' (Step to from path) place at live t def f g =
        inl (step_covered a b d j to from q q' path at live (subst (λ w. DefinedAt p d j w i) t.0 def) f (subst (λ w. IsMarked p b (mark i w q')) t.1 g))
    plain_covered a b d j r k q q' (Read to ref qs) place at live t def f g =
        inl (read_covered a b d j to ref q q' qs at live (subst (λ w. DefinedAt p d j w i) t.0 def) f (subst (λ w. IsMarked p b (mark i w q')) t.1 g))
    plain_covered a b d j r k q q' (Assert to from target) place at live t def f g =
        inl (assert_covered a b d j to from target q q' at live (subst (λ w. DefinedAt p d j w i) t.0 def) f (subst (λ w. IsMarked p b (mark i w q')) t.1 g))
    plain_covered a b d j r k q q' (Passed to callee) place at live t def f g =
        inl (copy_covered a b d j r k q q' (Passed to callee) at live (t.0, t.1, t.2) t.3 def f g)
    plain_covered a b d j r k q q' kind place at live t def f g =
        inl (copy_covered a b d j r k q q' kind at live t refl def f g)

    -- what a Grow copies stands with its items
    grown_covered : (a b : Node) (to ref : ℕ) (items : List ℕ) (q : List PathStep) → IsAt p i (Grow to ref items) → In h x.live → IsMarked p a (mark i 2 q) → IsMarked p b (mark i 1 q) → HasRule a Plain b
    grown_covered a b to ref items q at live f g =
        moves a b (Grow to ref items) (node i 2 b.leaf) (node i 1 b.leaf) (Copy (node i 1 b.leaf) (node i 2 b.leaf)) at live
        (node_is p a i 2 q f ∙ ap (node i 2) same) (node_is p b i 1 q g) rule (λ m. (ap (is_barred pr) at, m))
      where
        w : (n : ℕ) × (site : Site) × (own_site p i ≡ Some n) × IsSiteOf p i n site
        w = let s = wf.grow_site i to ref items at in let m = own_there p i s.number s.one.site s.one.is in let t = own_is p i m.0 m.1 in (m.0, t.0, m.1, t.1)

        shape : List (List PathStep)
        shape = shape_at p (Some w.0)

        in_shape : (c : ℕ) → slice_get (element_leaves w.1) c ≡ Some q → slice_get w.1.shape c ≡ Some (Element ∷ q)
        in_shape c e =
            let s = wf.grow_site i to ref items at in
            let m = s.one.alone w.0 w.1 w.3 in
            let y : Some w.1 ≡ Some s.one.site = sym w.3.is ∙ ap (slice_get p.sites) m ∙ s.one.is.is in
            let g : w.1 ≡ s.one.site = cc in
            let v = get-map without_first w.1.shape c q e in
            let r = s.elements v.0 (subst (λ (y : Site). In v.0 y.shape) g (in_of_get w.1.shape c v.0 v.1)) in
            let z : q ≡ r.0 = v.2 ∙ ap without_first r.1 in
            v.1 ∙ ap Some (r.1 ∙ ap (λ y. Element ∷ y) (sym z))

        from_leaf : slice_get w.1.shape a.leaf ≡ Some (Element ∷ q)
        from_leaf = in_shape a.leaf (grown_leaf p wf h fn is i w.0 to ref items w.1 inside at w.3 1 a.leaf q f.has)

        to_leaf : slice_get w.1.shape b.leaf ≡ Some (Element ∷ q)
        to_leaf = in_shape b.leaf (grown_leaf p wf h fn is i w.0 to ref items w.1 inside at w.3 0 b.leaf q g.has)

        same : a.leaf ≡ b.leaf
        same = wf.site_shape w.0 w.1 w.3.is a.leaf b.leaf (Element ∷ q) from_leaf to_leaf

        rule : In (owned h (Copy (node i 1 b.leaf) (node i 2 b.leaf))) (kind_rules p fn ds h i (Grow to ref items))
        rule =
            let found = definitions p fn i ref ds in
            let A = copies h (node i 0 0) 0 found in
            let B = owned h (Put (node i 0 0) w.0) ∷ [] in
            let C = value_loads h i 2 0 shape found in
            let D = value_copies h i 1 0 shape ((i, 2) ∷ []) in
            let E = item_copies p fn ds h i shape items in
            let G = value_stores h i 1 0 shape ((i, 0) ∷ []) in
            let o = owned h (Copy (node i 1 b.leaf) (node i 2 b.leaf)) in
            let stands : slice_get shape b.leaf ≡ Some (Element ∷ q) = ap (λ y. slice_get y b.leaf) (shape_is p wf ds h i fn is inside w.0 w.1 w.3.is) ∙ to_leaf in
            let m = value_copies_have h i 1 0 shape ((i, 2) ∷ []) b.leaf b.leaf (Element ∷ q) (omega arith) stands (i, 2) (here refl) in
            subst (λ v. In o (grow_rules p fn ds h i ref items v)) (sym w.2)
            (In-left o ((((A ++ B) ++ C) ++ D) ++ E) G (In-left o (((A ++ B) ++ C) ++ D) E (In-right o ((A ++ B) ++ C) D m)))

    -- calls
    hand_rule : (kind : Kind) (callee : Callee) (args : List ℕ) (n : ℕ) → Hands kind callee args n → (o : Owned)
        → In o (hand_rules p fn ds h i (reference i callee args n) n callee args) → In o (kind_rules p fn ds h i kind)
    hand_rule kind callee args n (by_call {to = to}) o m =
        let by = reference i callee args (length to) in
        In-left o (hand_rules p fn ds h i by (length to) callee args ++ returns fn h i by 0 to) (fresh_of p h i by)
        (In-left o (hand_rules p fn ds h i by (length to) callee args) (returns fn h i by 0 to) m)
    hand_rule kind callee args n by_go o m = m
    hand_rule kind callee args n by_defer o m = m

    enter_rule : (kind : Kind) (callee : Callee) (args : List ℕ) (n : ℕ) → Hands kind callee args n → (o : Owned)
        → In o (enters fn h i (reference i callee args n) n (found_by callee args) 0 (handed_values callee args)) → In o (kind_rules p fn ds h i kind)
    enter_rule kind callee args n hands o m =
        let by = reference i callee args n in
        hand_rule kind callee args n hands o
        (In-right o (register_copies p fn ds h i n (handed_values callee args) ++ owned h (Aim i by) ∷ []) (enters fn h i by n (found_by callee args) 0 (handed_values callee args)) m)

    -- the register of a leaf that is handed on
    sent_leaf : (k a n : ℕ) (q : List PathStep) (kind : Kind) (callee : Callee) (args : List ℕ) → IsAt p i kind → Hands kind callee args n → HasLeaf p i (n + k) a q
        → (r : ℕ) × (slice_get (handed_values callee args) k ≡ Some r) × (slice_get (leaves_of fn r) a ≡ Some q)
    sent_leaf k a n q kind callee args at hands (of_kind g r kind' inside' at' reg leaf) =
        let e = same_kind p i kind' kind at' at in
        let reg' = subst (λ c. slice_get (node_registers c) (n + k) ≡ Some r) e reg in
        (r, behind_results kind callee args n k r hands reg', node_leaf p wf h fn is i (n + k) a r q kind inside at reg' (of_kind g r kind' inside' at' reg leaf))
    sent_leaf k a n q kind callee args at hands (of_items b to ref items site at' own one leaf) = absurd (elim (subst (λ c. Hands c callee args n) (same_kind p i kind (Grow to ref items) at at') hands) [ ])
    sent_leaf k a n q kind callee args at hands (of_elements b to ref items site at' own two leaf) = absurd (elim (subst (λ c. Hands c callee args n) (same_kind p i kind (Grow to ref items) at at') hands) [ ])
    sent_leaf k a n q kind callee args at hands (of_entry g e within leaf) = absurd (never e.fn.external refl)
      where
        goes_on : (target : ℕ) → IsAt p e.fn.entry (Goto target) → ⊥
        goes_on target y = elim (subst (λ c. Hands c callee args n) (same_kind p e.fn.entry kind (Goto target) (subst (λ c. IsAt p c kind) e.at at) y) hands) [ ]

        never : (o : Option Bool) → e.fn.external ≡ o → ⊥
        never None y = goes_on (e.fn.entry + 1) (wf.entry_goto g e.fn e.is y)
        never (Some flows) y = goes_on e.fn.entry (wf.externals g flows e.fn e.is y).goto

  -- a leaf of a parameter
  param_leaf : (g : ℕ) (fn : Function) (j a : ℕ) (q : List PathStep) → IsFunction p g fn → HasLeaf p fn.entry j a q → (j < fn.params) × (slice_get (leaves_of fn j) a ≡ Some q)
  param_leaf g fn j a q is (of_kind g' r kind inside at reg leaf) = absurd (never_entry p wf g fn is fn.entry g j r kind at reg (record { fn = fn; is = is; at = refl }))
  param_leaf g fn j a q is (of_items b to ref items site at own one leaf) = absurd (never_entry p wf g fn is fn.entry g 0 to (Grow to ref items) at refl (record { fn = fn; is = is; at = refl }))
  param_leaf g fn j a q is (of_elements b to ref items site at own two leaf) = absurd (never_entry p wf g fn is fn.entry g 0 to (Grow to ref items) at refl (record { fn = fn; is = is; at = refl }))
  param_leaf g fn j a q is (of_entry g' e within leaf) =
      let f = one_function p wf.ranges fn.entry g' g (entry_inside p wf fn.entry g' e) (entry_inside p wf fn.entry g (record { fn = fn; is = is; at = refl })) in
      let u : Some e.fn ≡ Some fn = sym e.is ∙ ap (slice_get p.functions) f ∙ is in
      let v : e.fn ≡ fn = cc in
      (subst (λ (y : Function). j < y.params) v within, leaf_there p wf g fn is g' j a q f leaf)

  -- a leaf of what is handed back
  left_leaf : (g : ℕ) (fn : Function) (from : List ℕ) (k a : ℕ) (q : List PathStep) → IsFunction p g fn → IsAt p fn.leave (Leave from) → HasLeaf p fn.leave k a q → (r : ℕ) × (slice_get from k ≡ Some r) × (slice_get (leaves_of fn r) a ≡ Some q)
  left_leaf g fn from k a q is at (of_kind g' r kind inside at' reg leaf) =
      let e = same_kind p fn.leave kind (Leave from) at' at in
      let reg' = subst (λ c. slice_get (node_registers c) k ≡ Some r) e reg in
      let w = wf.ranges.inside g fn is in
      let own : IsIn p fn.leave g = record { fn = fn; is = is; low = omega (arith, w.0, w.1); high = omega arith } in
      (r, reg', node_leaf p wf g fn is fn.leave k a r q (Leave from) own at reg' (of_kind g' r kind inside at' reg leaf))
  left_leaf g fn from k a q is at (of_items b to ref items site at' own one leaf) = let e = same_kind p fn.leave (Leave from) (Grow to ref items) at at' in absurd cc
  left_leaf g fn from k a q is at (of_elements b to ref items site at' own two leaf) = let e = same_kind p fn.leave (Leave from) (Grow to ref items) at at' in absurd cc
  left_leaf g fn from k a q is at (of_entry g' e within leaf) = absurd (never e.fn.external refl)
    where
      goes_on : (target : ℕ) → IsAt p e.fn.entry (Goto target) → ⊥
      goes_on target y = let z = same_kind p e.fn.entry (Leave from) (Goto target) (subst (λ c. IsAt p c (Leave from)) e.at at) y in absurd cc

      never : (o : Option Bool) → e.fn.external ≡ o → ⊥
      never None y = goes_on (e.fn.entry + 1) (wf.entry_goto g' e.fn e.is y)
      never (Some flows) y = goes_on e.fn.entry (wf.externals g' flows e.fn e.is y).goto

  -- the target takes its reference as its own function has it
  takes_is : (i g n : ℕ) (takes : Bool) (kind : Kind) (callee : Callee) (args : List ℕ) (fn : Function) → IsAt p i kind → Hands kind callee args n → IsFunction p g fn → IsTakenAt p i g takes → takes ≡ takes_reference callee fn
  takes_is i g n takes kind callee args fn at hands is t =
      taken_once p i g takes (takes_reference callee fn) t (record { kind = kind; callee = callee; args = args; behind = n; fn = fn; at = at; hands = hands; is = is; takes_it = refl })

  -- a handed value becomes a parameter
  enter_covered : (a b : Node) (i k j g n : ℕ) (q : List PathStep) (takes : Bool) (kind : Kind) (callee : Callee) (args : List ℕ) (fn : Function) → IsAt p i kind → Hands kind callee args n → FactsOf p x (Targets i g takes)
      → param_of takes (length (arguments callee args)) k ≡ Some j → IsFunction p g fn → IsMarked p a (mark i (n + k) q) → IsMarked p b (mark fn.entry j q) → HasRule a (entering (Some kind) i) b
  enter_covered a b i k j g n q takes kind callee args fn at hands target taken is from to = by_value (is_value (found_by callee args) k) refl
    where
      own : (h : ℕ) × IsIn p i h
      own = function_of i kind at

      sent : (r : ℕ) × (slice_get (handed_values callee args) k ≡ Some r) × (slice_get (leaves_of own.1.fn r) a.leaf ≡ Some q)
      sent = sent_leaf own.0 i own.1.fn own.1.is own.1 k a.leaf n q kind callee args at hands from.has

      z : k ≡ 0 + k
      z = omega arith

      entry_leaf : (j < fn.params) × (slice_get (leaves_of fn j) b.leaf ≡ Some q)
      entry_leaf = param_leaf g fn j b.leaf q is to.has

      here_call : IsCallAt p i callee args n
      here_call = record { kind = kind; at = at; hands = hands }

      row : (c : ℕ) (path : List PathStep) → a.leaf ≡ c → q ≡ path → Entering p x pr i k path (node i (n + k) c) a (entering (Some kind) i) b
      row c path e s = record {
        target = g;
        listed = target.0;
        parameter = b;
        becomes = record {
          callee = callee;
          args = args;
          behind = n;
          call = here_call;
          fn = fn;
          is = is;
          param = j;
          taken = subst (λ w. param_of w (length (arguments callee args)) k ≡ Some j) (takes_is i g n takes kind callee args fn at hands is target.1) taken;
          within = entry_leaf.0;
          leaf = b.leaf;
          has = entry_leaf.1 ∙ ap Some s;
          same = node_is p b fn.entry j q to;
        };
        just = (node_is p a i (n + k) q from ∙ ap (node i (n + k)) e, ap (λ w. entering w i) (sym at), refl);
      }

      by_value : (v : Bool) → is_value (found_by callee args) k ≡ v → HasRule a (entering (Some kind) i) b
      by_value false e =
          let by = reference i callee args n in
          let o = owned own.0 (Enter i by k q (node i (n + k) a.leaf)) in
          let m = enters_have own.1.fn own.0 i by n (found_by callee args) 0 (handed_values callee args) k k sent.0 z sent.1 e a.leaf q sent.2 in
          (o, listed own.0 i own.1.fn own.1.is own.1 kind o at (enter_rule own.0 i own.1.fn own.1.is own.1 kind callee args n hands o m), row a.leaf q refl refl)
      by_value true e =
          let by = reference i callee args n in
          let o = owned own.0 (Choose i by k) in
          let m = chooses_have own.1.fn own.0 i by n (found_by callee args) 0 (handed_values callee args) k k sent.0 z sent.1 e in
          let one = found_leaves p wf own.0 i n k sent.0 kind callee args own.1 at hands (value_is (found_by callee args) k e) sent.1 in
          let first = only_leaf a.leaf q (ap (λ y. slice_get y a.leaf) (sym one ∙ register_leaves p own.0 own.1.fn sent.0 own.1.is) ∙ sent.2) in
          (o, listed own.0 i own.1.fn own.1.is own.1 kind o at (enter_rule own.0 i own.1.fn own.1.is own.1 kind callee args n hands o m), (callee, args, n, here_call, row 0 [] first.0 first.1))

  -- what is handed back becomes a result
  return_covered : (a b : Node) (i k g : ℕ) (q : List PathStep) (takes : Bool) (to args : List ℕ) (callee : Callee) (fn : Function) → IsAt p i (Call to callee args) → FactsOf p x (Targets i g takes) → IsFunction p g fn → fn.external ≡ None
      → k < length to → cleans p pr i g ≡ false → IsMarked p a (mark fn.leave k q) → IsMarked p b (mark i k q) → HasRule a (Returns i) b
  return_covered a b i k g q takes to args callee fn at target is body within passes from into =
      let own = function_of i (Call to callee args) at in
      let fnh = own.1.fn in
      let v = get_at to k within in
      let reg = get-front to (handed_values callee args) k v.0 v.1 in
      let leaf = node_leaf p wf own.0 own.1.fn own.1.is i k b.leaf v.0 q (Call to callee args) own.1 at reg into.has in
      let l = wf.leaves_at_leave.stands g fn is body in
      let back = left_leaf g fn l.0 k a.leaf q is l.1 from.has in
      let by = reference i callee args (length to) in
      let o = owned own.0 (Return i by k q (node i k b.leaf)) in
      let z : k ≡ 0 + k = omega arith in
      let m = In-left o (hand_rules p fnh ds own.0 i by (length to) callee args ++ returns fnh own.0 i by 0 to) (fresh_of p own.0 i by)
      (In-right o (hand_rules p fnh ds own.0 i by (length to) callee args) (returns fnh own.0 i by 0 to) (returns_have fnh own.0 i by 0 to k k v.0 z v.1 b.leaf q leaf)) in (
        o,
        listed own.0 i own.1.fn own.1.is own.1 (Call to callee args) o at m,
        record {
          inside = place_within p i (Call to callee args) at;
          target = g;
          listed = target.0;
          passes = passes;
          value = a;
          back = record { fn = fn; is = is; body = body; from = l.0; at = l.1; register = back.0; value = back.1; leaf = a.leaf; has = back.2; same = node_is p a fn.leave k q from };
          just = (refl, refl, node_is p b i k q into);
        },
      )

  -- an edge has a rule, or is one of the others
  pub covered : (m n : Mark) (kind : EdgeKind) → MovesBy p (DefinedAt p) (FactsOf p x) pr m kind n → (a b : Node) → IsMarked p a m → IsMarked p b n
      → ((o : Owned) × In o (rules_of p ds) × RuleRow p x pr o.function o.rule a kind b) ⊎ IsOther p (DefinedAt p) (FactsOf p x) pr m kind n
  covered m n e (plain {d = d} {j = j} {i = i} {k = k} {q = q} {q' = q'} r kind place at takes def) a b f g =
      plain_covered place.function i place.is_in.fn place.is_in.is place.is_in a b d j r k q q' kind place at place.is_live takes def f g
  covered m n e (grown {i = i} {q = q} to ref items place at) a b f g =
      inl (grown_covered place.function i place.is_in.fn place.is_in.is place.is_in a b to ref items q at place.is_live f g)
  covered m n e (call {i = i} {j = j} {q = q} k target behind takes kind callee args fn at likewise hands t taken is) a b f g =
      inl (likewise_enters kind likewise (enter_covered a b i k j target behind q takes kind callee args fn at hands t taken is f g))
    where
      likewise_enters : (kind : Kind) → CallsLikewise kind → HasRule a (entering (Some kind) i) b → HasRule a (Enters i) b
      likewise_enters kind a_call r = r
      likewise_enters kind a_defer r = r
  covered m n e (go {i = i} {k = k} {j = j} {q = q} target takes callee args fn at t taken is) a b f g =
      let z : k ≡ 0 + k = omega arith in
      inl (enter_covered a b i k j target 0 q takes (Go callee args) callee args fn at by_go t taken is (subst (λ w. IsMarked p a (mark i w q)) z f) g)
  covered m n e (return {i = i} {k = k} {q = q} target takes to args callee fn at t is body within passes) a b f g =
      inl (return_covered a b i k target q takes to args callee fn at t is body within passes f g)
  covered m n e (external k target takes to args callee fn at t is flows passes within results) a b f g = inr (other_external k target takes to args callee fn at t is flows passes within results)
  covered m n e (by_object s path writes reads meet) a b f g = inr (other_object s path writes reads meet)
  covered m n e (by_argument k s target behind at takes path kind callee args is hands t looks within has reach writes read meet) a b f g =
      inr (other_argument k s target behind at takes path kind callee args is hands t looks within has reach writes read meet)
