-- What rules of points-to say of data are edges.
use Rattle.std.proofs.Common.{◌≡◌, ℕ, zero, suc, ◌+◌, ◌<◌, false, List, [], ◌∷◌, ◌++◌, Some, None, Option, refl, sym, ap, ◌∙◌, inl, inr, arith, subst, drop}
use Rattle.std.specs.Prelude.{slice_get, length}
use Rattle.argot_plain.specs.Lists.{In, here, there, without_first}
use Rattle.argot_plain.specs.Code.{Code, IsAt, IsFunction, IsIn, IsSiteOf, Hands, by_call, by_go, by_defer, found_by, arguments, handed_values, node_registers, element_leaves, kind_of, param_of, takes_reference}
use Rattle.argot_plain.specs.Nodes.{Mark, mark, HasLeaf, of_kind, of_items, of_elements, of_entry}
use Rattle.argot_plain.specs.WellFormed.{WellFormed, reference_registers}
use Rattle.argot_plain.specs.declared.functions.Function.{Function}
use Rattle.argot_plain.specs.declared.functions.Ident.{Ident}
use Rattle.argot_plain.specs.declared.instructions.Callee.{Callee}
use Rattle.argot_plain.specs.declared.instructions.Kind.{Kind}
use Rattle.argot_plain.specs.declared.instructions.Kind.TheVariants.{Op, Move, Join, New, Step, Read, Write, Grow, Global, Assert, Call, Go, Defer, Leave, Passed}
use Rattle.argot_plain.specs.declared.problems.Problem.{Problem}
use Rattle.argot_plain.specs.declared.sites.Site.{Site}
use Rattle.argot_text.specs.declared.path.PathStep.{PathStep}
use Rattle.argot_text.specs.declared.path.PathStep.TheVariants.{Element}
use Rattle.argot_text.specs.declared.position.Pos.{Pos}
use Rattle.argot_facts.specs.Copies.{Copies, Takes}
use Rattle.argot_facts.specs.Edges.{MovesBy, plain, grown, call, go, return, a_call, a_defer}
use Rattle.argot_facts.specs.Exact.{AreDefs}
use Rattle.argot_facts.specs.Graphs.{IsMarked, IsEdgeBy}
use Rattle.argot_facts.specs.Handed.{FactsOf}
use Rattle.argot_facts.specs.Numbers.{node, leaves_of, own_site, shape_at}
use Rattle.argot_facts.specs.Pointing.{Pointing}
use Rattle.argot_facts.specs.Reaching.{DefinedAt}
use Rattle.argot_facts.specs.Refers.{Targets, IsLivePlaceIn}
use Rattle.argot_facts.specs.declared.graphs.EdgeKind.{EdgeKind}
use Rattle.argot_facts.specs.declared.graphs.EdgeKind.TheVariants.{Plain, Return as Returns}
use Rattle.argot_facts.specs.declared.nodes.Node.{Node}
use Rattle.argot_facts.proofs.Listed.{in_of_get, map-get, get_within}
use Rattle.argot_facts.proofs.Marked.{register_leaves, own_is}
use Rattle.argot_points_rules.specs.Column.{owned, copies, value_copies, value_loads, value_stores, register_copies, item_copies, definitions, kind_rules, grow_rules, hand_rules, reference, enters, returns, fresh_of, variable_rules, rules_of}
use Rattle.argot_points_rules.specs.declared.rules.Owned.{Owned}
use Rattle.argot_points_rules.specs.declared.rules.Rule.TheVariants.{Put, Copy, Aim}
use Rattle.argot_points.proofs.Chosen.{value_is, found_leaves}
use Rattle.argot_points.proofs.Columns.{same_path_is}
use Rattle.argot_points.proofs.Defined.{definition_found, defined_leaf}
use Rattle.argot_points.proofs.Each.{In-append, one-In, each_copies, each_shifts, each_keeps, each_value_copies, each_value_loads, each_value_stores}
use Rattle.argot_points.proofs.Handed.{each_enters, each_returns, each_fresh, rule_found}
use Rattle.argot_points.proofs.Justified.{handed_register, get-front}
use Rattle.argot_points.proofs.CallsJustified.{handed_copies}
use Rattle.argot_points.proofs.Pieces.{each_move, each_join, each_register, each_item}
use Rattle.argot_graph_edges.specs.Rows.{Just, Moving, Entering, Returning, RuleRow, IsCallAt, entering, is_barred}
use Rattle.argot_graph_edges.proofs.Calling.{one_call}

abbrev shape_in : Site → List (List PathStep)
shape_in site = site.shape

-- what is copied, but through a validator, is data that moves
takes_of : (pr : Problem) (kind : Kind) (r : ℕ) (q : List PathStep) (k : ℕ) (q' : List PathStep) → Copies kind r q k q' → is_barred pr (Some kind) ≡ false → Takes pr kind r q k q'
takes_of pr (Op to from) r q k q' c b = elim c [ ]
takes_of pr (Step to from path) r q k q' c b = elim c [ ]
takes_of pr (Read to at leaves) r q k q' c b = elim c [ ]
takes_of pr (Assert to from target) r q k q' c b = elim c [ ]
takes_of pr (Passed to callee) r q k q' c b = (c.0, c.1, c.2, b)
takes_of pr _ r q k q' c b = c

module _ (p : Code) (wf : WellFormed p) (x : Pointing) (pr : Problem) where
  abbrev Moves : Mark → EdgeKind → Mark → Type 0
  Moves = MovesBy p (DefinedAt p) (FactsOf p x) pr

  abbrev IsEdge : Node → EdgeKind → Node → Type 0
  IsEdge = IsEdgeBy p (DefinedAt p) (FactsOf p x) pr

  -- an edge between these nodes
  between : (source to : Node) (k : EdgeKind) (m n : Mark) → IsMarked p source m → IsMarked p to n → Moves m k n → (a b : Node) (kind : EdgeKind) → Just source k to a kind b → IsEdge a kind b
  between source to k m n f g moves a b kind j =
      subst (λ w. IsEdge w kind b) (sym j.0) (subst (λ w. IsEdge source w b) (sym j.1) (subst (λ w. IsEdge source k w) (sym j.2)
      (record { from = m; to = n; is_from = f; is_to = g; moves = moves })))

  marked : (i k a : ℕ) (q : List PathStep) → HasLeaf p i k a q → IsMarked p (node i k a) (mark i k q)
  marked i k a q has = record { place = refl; index = refl; has = has }

  -- the rule is an edge
  abbrev Said : Owned → Type 0
  Said o = (a b : Node) (kind : EdgeKind) → RuleRow p x pr o.function o.rule a kind b → IsEdge a kind b

  -- what enters a target
  enter_moves : (i k g j n : ℕ) (q : List PathStep) (kind : Kind) (callee : Callee) (args : List ℕ) (fn : Function) → IsAt p i kind → Hands kind callee args n
      → FactsOf p x (Targets i g (takes_reference callee fn)) → param_of (takes_reference callee fn) (length (arguments callee args)) k ≡ Some j → IsFunction p g fn
      → Moves (mark i (n + k) q) (entering (Some kind) i) (mark fn.entry j q)
  enter_moves i k g j n q kind callee args fn at (by_call {to = to}) t taken is = call k g (length to) (takes_reference callee fn) (Call to callee args) callee args fn at a_call by_call t taken is
  enter_moves i k g j n q kind callee args fn at by_go t taken is =
      let z : k ≡ 0 + k = omega arith in
      subst (λ w. Moves (mark i w q) (entering (Some (Go callee args)) i) (mark fn.entry j q)) z (go g (takes_reference callee fn) callee args fn at t taken is)
  enter_moves i k g j n q kind callee args fn at by_defer t taken is = call k g 0 (takes_reference callee fn) (Defer callee args) callee args fn at a_defer by_defer t taken is

  parameter_marked : (g j leaf : ℕ) (fn : Function) (q : List PathStep) (b : Node) → IsFunction p g fn → j < fn.params → slice_get (leaves_of fn j) leaf ≡ Some q → b ≡ node fn.entry j leaf → IsMarked p b (mark fn.entry j q)
  parameter_marked g j leaf fn q b is within has same =
      subst (λ w. IsMarked p w (mark fn.entry j q)) (sym same)
      (marked fn.entry j leaf q (of_entry g (record { fn = fn; is = is; at = refl }) within (ap (λ y. slice_get y leaf) (register_leaves p g fn j is) ∙ has)))

  entered : (i n k c : ℕ) (q : List PathStep) (callee : Callee) (args : List ℕ) → IsCallAt p i callee args n → HasLeaf p i (n + k) c q → (a b : Node) (kind : EdgeKind) → Entering p x pr i k q (node i (n + k) c) a kind b → IsEdge a kind b
  entered i n k c q callee args handing has a b kind r =
      let e = r.becomes in
      let o = one_call p i e.callee callee e.args args e.behind n e.call handing in
      let z : n + k ≡ e.behind + k = omega (arith, o.2) in
      let from : IsMarked p (node i (n + k) c) (mark i (e.behind + k) q) = record { place = refl; index = z; has = subst (λ w. HasLeaf p i w c q) z has } in
      let moves = enter_moves i k r.target e.param e.behind q e.call.kind e.callee e.args e.fn e.call.at e.call.hands
      (r.listed, record { kind = e.call.kind; callee = e.callee; args = e.args; behind = e.behind; fn = e.fn; at = e.call.at; hands = e.call.hands; is = e.is; takes_it = refl }) e.taken e.is in
      between (node i (n + k) c) r.parameter (entering (kind_of (slice_get p.instrs i)) i) (mark i (e.behind + k) q) (mark e.fn.entry e.param q) from
      (parameter_marked r.target e.param e.leaf e.fn q r.parameter e.is e.within e.has e.same)
      (subst (λ w. Moves (mark i (e.behind + k) q) (entering w i) (mark e.fn.entry e.param q)) (sym e.call.at) moves) a b kind r.just

  -- and what comes back from one
  returned : (i k c : ℕ) (q : List PathStep) (to args : List ℕ) (callee : Callee) → IsAt p i (Call to callee args) → k < length to → HasLeaf p i k c q → (a b : Node) (kind : EdgeKind) → Returning p x pr i k q (node i k c) a kind b → IsEdge a kind b
  returned i k c q to args callee at within has a b kind r =
      let e = r.back in
      let w = wf.ranges.inside r.target e.fn e.is in
      let there : IsIn p e.fn.leave r.target = record { fn = e.fn; is = e.is; low = omega (arith, w.0, w.1); high = omega arith } in
      let leaf : HasLeaf p e.fn.leave k e.leaf q = of_kind r.target e.register (Leave e.from) there e.at e.value (ap (λ y. slice_get y e.leaf) (register_leaves p r.target e.fn e.register e.is) ∙ e.has) in
      between r.value (node i k c) (Returns i) (mark e.fn.leave k q) (mark i k q)
      (subst (λ v. IsMarked p v (mark e.fn.leave k q)) (sym e.same) (marked e.fn.leave k e.leaf q leaf)) (marked i k c q has)
      (return r.target (takes_reference callee e.fn) to args callee e.fn at
      (r.listed, record { kind = Call to callee args; callee = callee; args = args; behind = length to; fn = e.fn; at = at; hands = by_call; is = e.is; takes_it = refl }) e.is e.body within r.passes) a b kind r.just

  module _ (ds : List (ℕ × ℕ × ℕ)) (exact : AreDefs p ds) (h i : ℕ) (fn : Function) (is : IsFunction p h fn) (inside : IsIn p i h) where
    -- where the function is live
    moved : (source to : Node) (m n : Mark) → IsMarked p source m → IsMarked p to n → (IsLivePlaceIn p (FactsOf p x) i → Moves m Plain n) → (a b : Node) (kind : EdgeKind) → Moving p x pr h source to a kind b → IsEdge a kind b
    moved source to m n f g moves a b kind r = between source to Plain m n f g (moves (record { function = h; is_in = inside; is_live = r.live })) a b kind r.just

    copy_said : (d j r k a c : ℕ) (q q' : List PathStep) (kind : Kind) → IsAt p i kind → Copies kind r q k q' → DefinedAt p d j r i → HasLeaf p i k a q' → HasLeaf p d j c q → Said (owned h (Copy (node i k a) (node d j c)))
    copy_said d j r k a c q q' kind at copy def to from s t e row =
        moved (node d j c) (node i k a) (mark d j q) (mark i k q') (marked d j c q from) (marked i k a q' to)
        (λ live. plain r kind live at (takes_of pr kind r q k q' copy (subst (λ w. is_barred pr w ≡ false) at row.0)) def) s t e row.1

    own_leaf : (kind : Kind) (k r a : ℕ) (q : List PathStep) → IsAt p i kind → slice_get (node_registers kind) k ≡ Some r → slice_get (leaves_of fn r) a ≡ Some q → HasLeaf p i k a q
    own_leaf kind k r a q at reg leaf = of_kind h r kind inside at reg (ap (λ y. slice_get y a) (register_leaves p h fn r is) ∙ leaf)

    def_leaf : (r a : ℕ) (q : List PathStep) (d : ℕ × ℕ) → In d (definitions p fn i r ds) → slice_get (leaves_of fn r) a ≡ Some q → DefinedAt p d.0 d.1 r i × HasLeaf p d.0 d.1 a q
    def_leaf r a q d m leaf =
        let e = definition_found p wf ds exact h fn is i r d m in
        (e, defined_leaf p wf d.0 d.1 r i h a q e inside (ap (λ y. slice_get y a) (register_leaves p h fn r is) ∙ leaf))

    reference_leaf : (kind : Kind) (r : ℕ) → IsAt p i kind → In r (reference_registers kind) → slice_get (leaves_of fn r) 0 ≡ Some []
    reference_leaf kind r at m = ap (λ y. slice_get y 0) (sym (register_leaves p h fn r is) ∙ wf.references.each i h r kind inside at m)

    registers_said : (kind : Kind) (k : ℕ) (rs : List ℕ) → IsAt p i kind → ((j r : ℕ) (q : List PathStep) → slice_get rs j ≡ Some r → slice_get (node_registers kind) (k + j) ≡ Some r)
        → ((j r : ℕ) (q : List PathStep) → slice_get rs j ≡ Some r → Copies kind r q (k + j) q) → (o : Owned) → In o (register_copies p fn ds h i k rs) → Said o
    registers_said kind k rs at regs copy o m = each_register p fn ds h i Said o k rs m
        (λ l j r e g a q leaf d y.
        let u = def_leaf r a q d y leaf in
        copy_said d.0 d.1 r l a a q q kind at (subst (λ w. Copies kind r q w q) (sym e) (copy j r q g)) u.0
        (own_leaf kind l r a q at (subst (λ w. slice_get (node_registers kind) w ≡ Some r) (sym e) (regs j r q g)) leaf) u.1)

    move_said : (to from : ℕ) (path : List PathStep) → IsAt p i (Move to from path) → (o : Owned) → In o (kind_rules p fn ds h i (Move to from path)) → Said o
    move_said to from path at o m = each_move Said o h i path 0 (leaves_of fn to) (leaves_of fn from) (definitions p fn i from ds) m
        (λ d b q e g c leaf k same v y.
        let u = def_leaf from c leaf v y k in
        let z : b ≡ d = omega (arith, e) in
        copy_said v.0 v.1 from 0 d c leaf q (Move to from path) at (refl, refl, same_path_is leaf (path ++ q) same) u.0
        (own_leaf (Move to from path) 0 to d q at refl (subst (λ w. slice_get (leaves_of fn to) w ≡ Some q) z g)) u.1)

    join_said : (to : ℕ) (parts : List (List PathStep × ℕ)) → IsAt p i (Join to parts) → (o : Owned) → In o (kind_rules p fn ds h i (Join to parts)) → Said o
    join_said to parts at o m = each_join p fn ds h i Said o (leaves_of fn to) parts m
        (λ path r d q part lasts g c leaf k same v y.
        let u = def_leaf r c leaf v y k in
        copy_said v.0 v.1 r 0 d c leaf q (Join to parts) at (path, lasts, refl, same_path_is q (path ++ leaf) same) u.0 (own_leaf (Join to parts) 0 to d q at refl g) u.1)

    step_said : (to from : ℕ) (path : List PathStep) → IsAt p i (Step to from path) → (o : Owned) → In o (kind_rules p fn ds h i (Step to from path)) → Said o
    step_said to from path at o m = each_shifts Said o h (node i 0 0) path (definitions p fn i from ds) m
        (λ d y a b kind row.
        let u = def_leaf from 0 [] d y (reference_leaf (Step to from path) from at (there (here refl))) in
        let own = own_leaf (Step to from path) 0 to 0 [] at refl (reference_leaf (Step to from path) to at (here refl)) in
        moved (node d.0 d.1 0) (node i 0 0) (mark d.0 d.1 []) (mark i 0 []) (marked d.0 d.1 0 [] u.1) (marked i 0 0 [] own)
        (λ live. plain from (Step to from path) live at (refl, refl, refl) u.0) a b kind row)

    assert_said : (to from target : ℕ) → IsAt p i (Assert to from target) → (o : Owned) → In o (kind_rules p fn ds h i (Assert to from target)) → Said o
    assert_said to from target at o m = each_keeps Said o h (node i 0 0) target (definitions p fn i from ds) m
        (λ d y a b kind row.
        let u = def_leaf from 0 [] d y (reference_leaf (Assert to from target) from at (there (here refl))) in
        let own = own_leaf (Assert to from target) 0 to 0 [] at refl (reference_leaf (Assert to from target) to at (here refl)) in
        moved (node d.0 d.1 0) (node i 0 0) (mark d.0 d.1 []) (mark i 0 []) (marked d.0 d.1 0 [] u.1) (marked i 0 0 [] own)
        (λ live. plain from (Assert to from target) live at (refl, refl, refl) u.0) a b kind row)

    read_said : (to ref : ℕ) (qs : List (List PathStep)) → IsAt p i (Read to ref qs) → (o : Owned) → In o (kind_rules p fn ds h i (Read to ref qs)) → Said o
    read_said to ref qs at o m = each_value_loads Said o h i 0 0 qs (definitions p fn i ref ds) m
        (λ c t q e g d y a b kind row.
        let u = def_leaf ref 0 [] d y (reference_leaf (Read to ref qs) ref at (here refl)) in
        let z : t ≡ c = omega (arith, e) in
        let leaf : slice_get (leaves_of fn to) c ≡ Some q = ap (λ w. slice_get w c) (sym (register_leaves p h fn to is) ∙ sym (wf.read_leaves i h to ref qs inside at)) ∙ subst (λ w. slice_get qs w ≡ Some q) z g in
        moved (node d.0 d.1 0) (node i 0 c) (mark d.0 d.1 []) (mark i 0 q) (marked d.0 d.1 0 [] u.1) (marked i 0 c q (own_leaf (Read to ref qs) 0 to c q at refl leaf))
        (λ live. plain ref (Read to ref qs) live at (refl, refl, refl, in_of_get qs t q g) u.0) a b kind row.1)

    write_said : (ref from : ℕ) → IsAt p i (Write ref from) → (o : Owned) → In o (kind_rules p fn ds h i (Write ref from)) → Said o
    write_said ref from at o m = elim (In-append o (register_copies p fn ds h i 0 (from ∷ [])) (value_stores h i 0 0 (leaves_of fn from) (definitions p fn i ref ds)) m) [
      | inl l ↦ registers_said (Write ref from) 0 (from ∷ []) at (λ j r q g. let z : 0 + j ≡ j = omega arith in ap (slice_get (from ∷ [])) z ∙ g) (λ j r q g. written j r q g) o l
      | inr l ↦ each_value_stores Said o h i 0 0 (leaves_of fn from) (definitions p fn i ref ds) l (λ c t q e g d y a b kind row. elim row [ ])
    ]
      where
        written : (j r : ℕ) (q : List PathStep) → slice_get (from ∷ []) j ≡ Some r → Copies (Write ref from) r q (0 + j) q
        written zero r q g = let e : from ≡ r = cc in (sym e, refl, refl)
        written (suc j) r q g = absurd cc

    new_said : (to site : ℕ) → (o : Owned) → In o (kind_rules p fn ds h i (New to site)) → Said o
    new_said to site o m = subst Said (sym (one-In o (owned h (Put (node i 0 0) site)) m)) (λ a b kind row. elim row [ ])

    global_said : (to k : ℕ) → (o : Owned) → In o (kind_rules p fn ds h i (Global to k)) → Said o
    global_said to k o m = among (slice_get p.globals k) m
      where
        among : (v : Option (Ident × Pos × ℕ)) → In o (variable_rules h i v) → Said o
        among None m = elim m [ ]
        among (Some v) m = subst Said (sym (one-In o (owned h (Put (node i 0 0) v.2)) m)) (λ a b kind row. elim row [ ])

    leave_said : (from : List ℕ) → IsAt p i (Leave from) → (o : Owned) → In o (kind_rules p fn ds h i (Leave from)) → Said o
    leave_said from at o m = registers_said (Leave from) 0 from at (λ j r q g. let z : 0 + j ≡ j = omega arith in ap (slice_get from) z ∙ g) (λ j r q g. let z : 0 + j ≡ j = omega arith in (ap (slice_get from) z ∙ g, refl)) o m

    passed_said : (to callee : ℕ) → IsAt p i (Passed to callee) → (o : Owned) → In o (kind_rules p fn ds h i (Passed to callee)) → Said o
    passed_said to callee at o m = registers_said (Passed to callee) 0 (to ∷ []) at (λ j r q g. let z : 0 + j ≡ j = omega arith in ap (slice_get (to ∷ [])) z ∙ g) (λ j r q g. passed j r q g) o m
      where
        passed : (j r : ℕ) (q : List PathStep) → slice_get (to ∷ []) j ≡ Some r → Copies (Passed to callee) r q (0 + j) q
        passed zero r q g = let e : to ≡ r = cc in (sym e, refl, refl)
        passed (suc j) r q g = absurd cc

    -- a Grow and its own site
    module _ (to ref : ℕ) (items : List ℕ) (at : IsAt p i (Grow to ref items)) (n : ℕ) (site : Site) (own : IsSiteOf p i n site) where
      shape_is : shape_at p (Some n) ≡ site.shape
      shape_is = ap (λ v. elim v as (λ y. List (List PathStep)) [ None ↦ [] | Some y ↦ shape_in y ]) own.is

      -- a leaf of the shape is an element's
      stepped : (c : ℕ) (q : List PathStep) → slice_get site.shape c ≡ Some q → (rest : List PathStep) × (q ≡ Element ∷ rest) × (slice_get (element_leaves site) c ≡ Some rest)
      stepped c q g =
          let w = wf.grow_site i to ref items at in
          let same : n ≡ w.number = w.one.alone n site own in
          let e : Some site ≡ Some w.one.site = sym own.is ∙ ap (slice_get p.sites) same ∙ w.one.is.is in
          let f : site ≡ w.one.site = cc in
          let r = w.elements q (subst (λ (y : Site). In q y.shape) f (in_of_get site.shape c q g)) in
          (r.0, r.1, map-get without_first site.shape c q g ∙ ap (λ y. Some (without_first y)) r.1)

      shape_get : (b c : ℕ) (q : List PathStep) → c ≡ 0 + b → slice_get (shape_at p (Some n)) b ≡ Some q → slice_get site.shape c ≡ Some q
      shape_get b c q e g = let z : c ≡ b = omega (arith, e) in ap (slice_get site.shape) z ∙ ap (λ y. slice_get y b) (sym shape_is) ∙ g

      old_said : (o : Owned) → In o (copies h (node i 0 0) 0 (definitions p fn i ref ds)) → Said o
      old_said o m = each_copies Said o h (node i 0 0) 0 (definitions p fn i ref ds) m
          (λ d y.
          let u = def_leaf ref 0 [] d y (reference_leaf (Grow to ref items) ref at (there (here refl))) in
          copy_said d.0 d.1 ref 0 0 0 [] [] (Grow to ref items) at (inl (refl, refl, refl, refl)) u.0 (own_leaf (Grow to ref items) 0 to 0 [] at refl (reference_leaf (Grow to ref items) to at (here refl))) u.1)

      elements_said : (o : Owned) → In o (value_loads h i 2 0 (shape_at p (Some n)) (definitions p fn i ref ds)) → Said o
      elements_said o m = each_value_loads Said o h i 2 0 (shape_at p (Some n)) (definitions p fn i ref ds) m (λ c t q e g d y a b kind row. let z : 2 ≡ 0 = row.0 in absurd cc)

      kept_said : (o : Owned) → In o (value_copies h i 1 0 (shape_at p (Some n)) ((i, 2) ∷ [])) → Said o
      kept_said o m = each_value_copies Said o h i 1 0 (shape_at p (Some n)) ((i, 2) ∷ []) m
          (λ c t q e g d y.
          let s = stepped c q (shape_get t c q e g) in
          subst (λ (w : ℕ × ℕ). Said (owned h (Copy (node i 1 c) (node w.0 w.1 c)))) (sym (one-In d (i, 2) y))
          (λ a b kind row. moved (node i 2 c) (node i 1 c) (mark i 2 s.0) (mark i 1 s.0) (marked i 2 c s.0 (of_elements n to ref items site at own refl s.2)) (marked i 1 c s.0 (of_items n to ref items site at own refl s.2))
          (λ live. grown to ref items live at) a b kind row.1))

      items_said : (o : Owned) → In o (item_copies p fn ds h i (shape_at p (Some n)) items) → Said o
      items_said o m = each_item p fn ds h i Said o (shape_at p (Some n)) items m
          (λ r listed c q g d y.
          let z : c ≡ 0 + c = omega arith in
          let s = stepped c q (shape_get c c q z g) in
          let leaf : slice_get (leaves_of fn r) c ≡ Some s.0 = ap (λ w. slice_get w c) (sym (register_leaves p h fn r is) ∙ wf.grow_leaves i h n to ref r items site inside at own listed) ∙ s.2 in
          let u = def_leaf r c s.0 d y leaf in
          copy_said d.0 d.1 r 1 c c s.0 s.0 (Grow to ref items) at (inr (listed, refl, refl)) u.0 (of_items n to ref items site at own refl s.2) u.1)

      stores_said : (o : Owned) → In o (value_stores h i 1 0 (shape_at p (Some n)) ((i, 0) ∷ [])) → Said o
      stores_said o m = each_value_stores Said o h i 1 0 (shape_at p (Some n)) ((i, 0) ∷ []) m (λ c t q e g d y a b kind row. elim row [ ])

    grow_said : (to ref : ℕ) (items : List ℕ) → IsAt p i (Grow to ref items) → (o : Owned) → In o (kind_rules p fn ds h i (Grow to ref items)) → Said o
    grow_said to ref items at o m = among (own_site p i) refl m
      where
        among : (v : Option ℕ) → own_site p i ≡ v → In o (grow_rules p fn ds h i ref items v) → Said o
        among None e m = elim m [ ]
        among (Some n) e m =
            let w = own_is p i n e in
            let shape = shape_at p (Some n) in
            let found = definitions p fn i ref ds in
            let a = copies h (node i 0 0) 0 found in
            let b = owned h (Put (node i 0 0) n) ∷ [] in
            let c = value_loads h i 2 0 shape found in
            let d = value_copies h i 1 0 shape ((i, 2) ∷ []) in
            let f = item_copies p fn ds h i shape items in
            let g = value_stores h i 1 0 shape ((i, 0) ∷ []) in
            elim (In-append o ((((a ++ b) ++ c) ++ d) ++ f) g m) [
              | inl l ↦ elim (In-append o (((a ++ b) ++ c) ++ d) f l) [
                | inl l ↦ elim (In-append o ((a ++ b) ++ c) d l) [
                  | inl l ↦ elim (In-append o (a ++ b) c l) [
                    | inl l ↦ elim (In-append o a b l) [
                      | inl l ↦ old_said to ref items at n w.0 w.1 o l
                      | inr l ↦ subst Said (sym (one-In o (owned h (Put (node i 0 0) n)) l)) (λ a b kind row. elim row [ ])
                    ]
                    | inr l ↦ elements_said to ref items at n w.0 w.1 o l
                  ]
                  | inr l ↦ kept_said to ref items at n w.0 w.1 o l
                ]
                | inr l ↦ items_said to ref items at n w.0 w.1 o l
              ]
              | inr l ↦ stores_said to ref items at n w.0 w.1 o l
            ]

    -- calls
    hand_said : (kind : Kind) (callee : Callee) (args : List ℕ) (n : ℕ) → IsAt p i kind → Hands kind callee args n → (o : Owned) → In o (hand_rules p fn ds h i (reference i callee args n) n callee args) → Said o
    hand_said kind callee args n at hands o m =
        let by = reference i callee args n in
        elim (In-append o (register_copies p fn ds h i n (handed_values callee args) ++ owned h (Aim i by) ∷ []) (enters fn h i by n (found_by callee args) 0 (handed_values callee args)) m) [
          | inl l ↦ elim (In-append o (register_copies p fn ds h i n (handed_values callee args)) (owned h (Aim i by) ∷ []) l) [
            | inl l ↦ registers_said kind n (handed_values callee args) at (λ j r q g. handed_register kind callee args n j r hands g) (λ j r q g. handed_copies kind callee args n j r q hands g) o l
            | inr l ↦ subst Said (sym (one-In o (owned h (Aim i by)) l)) (λ a b kind row. elim row [ ])
          ]
          | inr l ↦ each_enters Said o fn h i by n (found_by callee args) 0 (handed_values callee args) l
              (λ l j r e g t c q lf a b kd row.
              let z : j ≡ l = omega (arith, e) in
              entered i n l c q callee args (record { kind = kind; at = at; hands = hands })
              (own_leaf kind (n + l) r c q at (handed_register kind callee args n l r hands (subst (λ w. slice_get (handed_values callee args) w ≡ Some r) z g)) lf) a b kd row)
              (λ l j r e g t a b kd row.
              let z : j ≡ l = omega (arith, e) in
              let f = value_is (found_by callee args) l t in
              let reg = subst (λ w. slice_get (handed_values callee args) w ≡ Some r) z g in
              let whole = ap (λ y. slice_get y 0) (sym (register_leaves p h fn r is) ∙ found_leaves p wf h i n l r kind callee args inside at hands f reg) in
              let has = own_leaf kind (n + l) r 0 [] at (handed_register kind callee args n l r hands reg) whole in
              let o = one_call p i callee row.0 args row.1 n row.2 (record { kind = kind; at = at; hands = hands }) row.3 in
              entered i row.2 l 0 [] row.0 row.1 row.3 (subst (λ w. HasLeaf p i (w + l) 0 []) o.2 has) a b kd row.4)
        ]

    call_said : (to args : List ℕ) (callee : Callee) → IsAt p i (Call to callee args) → (o : Owned) → In o (kind_rules p fn ds h i (Call to callee args)) → Said o
    call_said to args callee at o m =
        let by = reference i callee args (length to) in
        elim (In-append o (hand_rules p fn ds h i by (length to) callee args ++ returns fn h i by 0 to) (fresh_of p h i by) m) [
          | inl l ↦ elim (In-append o (hand_rules p fn ds h i by (length to) callee args) (returns fn h i by 0 to) l) [
            | inl l ↦ hand_said (Call to callee args) callee args (length to) at by_call o l
            | inr l ↦ each_returns Said o fn h i by 0 to l
                (λ l j r e g c q lf a b kd row.
                let z : j ≡ l = omega (arith, e) in
                let reg : slice_get to l ≡ Some r = subst (λ w. slice_get to w ≡ Some r) z g in
                returned i l c q to args callee at (get_within to l r reg) (own_leaf (Call to callee args) l r c q at (get-front to (handed_values callee args) l r reg) lf) a b kd row)
          ]
          | inr l ↦ each_fresh Said o h i by (length p.globals) (drop (length p.globals) p.sites) l (λ n b site e g k a t kd row. elim row [ ])
        ]

    kind_said : (kind : Kind) → IsAt p i kind → (o : Owned) → In o (kind_rules p fn ds h i kind) → Said o
    kind_said (Move to from path) at o m = move_said to from path at o m
    kind_said (Join to parts) at o m = join_said to parts at o m
    kind_said (New to site) at o m = new_said to site o m
    kind_said (Step to from path) at o m = step_said to from path at o m
    kind_said (Read to ref qs) at o m = read_said to ref qs at o m
    kind_said (Write ref from) at o m = write_said ref from at o m
    kind_said (Grow to ref items) at o m = grow_said to ref items at o m
    kind_said (Global to k) at o m = global_said to k o m
    kind_said (Assert to from target) at o m = assert_said to from target at o m
    kind_said (Call to callee args) at o m = call_said to args callee at o m
    kind_said (Go callee args) at o m = hand_said (Go callee args) callee args 0 at by_go o m
    kind_said (Defer callee args) at o m = hand_said (Defer callee args) callee args 0 at by_defer o m
    kind_said (Leave from) at o m = leave_said from at o m
    kind_said (Passed to callee) at o m = passed_said to callee at o m
    kind_said _ at o m = elim m [ ]

  -- a rule's row is an edge
  pub ruled : (ds : List (ℕ × ℕ × ℕ)) → AreDefs p ds → (o : Owned) → In o (rules_of p ds) → (a b : Node) (kind : EdgeKind) → RuleRow p x pr o.function o.rule a kind b → IsEdgeBy p (DefinedAt p) (FactsOf p x) pr a kind b
  ruled ds exact o m =
      let f = rule_found p ds 0 p.functions o m in
      let z : f.1 ≡ f.0 = omega (arith, f.3) in
      let is : IsFunction p f.0 f.2 = subst (λ w. slice_get p.functions w ≡ Some f.2) z f.4 in
      let inside : IsIn p f.5 f.0 = record { fn = f.2; is = is; low = f.7; high = omega (arith, f.7, f.8) } in
      kind_said ds exact f.0 f.5 f.2 is inside f.6 f.9 o f.10
