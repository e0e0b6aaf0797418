-- What stands of operations and of calls of externals is edges, and each of these edges stands.
use Rattle.std.proofs.Common.{◌≡◌, ℕ, ◌+◌, ◌<◌, Bool, true, false, List, [], Some, length, refl, sym, ap, ◌∙◌, subst}
use Rattle.std.specs.Prelude.{slice_get}
use Rattle.argot_plain.specs.Code.{Code, IsAt, IsFunction, by_call, arguments, takes_reference}
use Rattle.argot_plain.specs.Counts.{cleans}
use Rattle.argot_plain.specs.Lists.{In, member}
use Rattle.argot_plain.specs.Nodes.{Mark, mark, HasLeaf, of_kind}
use Rattle.argot_plain.specs.WellFormed.{WellFormed}
use Rattle.argot_plain.specs.declared.functions.Function.{Function}
use Rattle.argot_plain.specs.declared.instructions.Callee.{Callee}
use Rattle.argot_plain.specs.declared.instructions.Kind.TheVariants.{Op, Call}
use Rattle.argot_plain.specs.declared.problems.Problem.{Problem}
use Rattle.argot_text.specs.declared.path.PathStep.{PathStep}
use Rattle.argot_facts.specs.Edges.{MovesBy, plain, external}
use Rattle.argot_facts.specs.Exact.{AreDefs}
use Rattle.argot_facts.specs.Graphs.{IsMarked, IsNumberedBy}
use Rattle.argot_facts.specs.Handed.{FactsOf}
use Rattle.argot_facts.specs.Numbers.{node, leaves_of}
use Rattle.argot_facts.specs.Pointing.{Pointing, FitsPoints}
use Rattle.argot_facts.specs.Reaching.{DefinedAt}
use Rattle.argot_facts.specs.Refers.{Targets, IsLivePlaceIn}
use Rattle.argot_facts.specs.declared.graphs.Edge.{Edge}
use Rattle.argot_facts.specs.declared.graphs.EdgeKind.TheVariants.{Plain}
use Rattle.argot_facts.specs.declared.nodes.Node.{Node}
use Rattle.argot_facts.proofs.Listed.{in_of_get, get_at, get_within}
use Rattle.argot_facts.proofs.Marked.{nodes_are, register_leaves}
use Rattle.argot_facts.proofs.Ordered.{same_node}
use Rattle.argot_points.proofs.Copied.{first_alone}
use Rattle.argot_points.proofs.Defined.{definition_found, definition_listed, defined_leaf}
use Rattle.argot_points.proofs.LeafOf.{node_leaf, definition_leaf}
use Rattle.argot_roles.proofs.Membership.{in_member, member_in}
use Rattle.argot_graph_edges.specs.Operating.{OfFunctions}
use Rattle.argot_graph_edges.specs.Outward.{OfExternals}

module _ (p : Code) (wf : WellFormed p) (x : Pointing) (pr : Problem) where
  -- edges by these tables
  abbrev Numbered : Edge → Type 0
  Numbered e = IsNumberedBy p (DefinedAt p) (FactsOf p x) pr x.nodes e.from e.kind e.to

  module _ (ds : List (ℕ × ℕ × ℕ)) (exact : AreDefs p ds) where
    pub op_is : (e : Edge) → OfFunctions p x.nodes ds x.live e → Numbered e
    op_is e (h, live, (i, inside, (to, from, at, (r, read, (d, found, (a, within, n)))))) =
        let fn = inside.fn in
        let q = get_at (leaves_of fn r) a within in
        let def = definition_found p wf ds exact h fn inside.is i r d found in
        let leaf = defined_leaf p wf d.0 d.1 r i h a q.0 def inside (ap (λ y. slice_get y a) (register_leaves p h fn r inside.is) ∙ q.1) in
        let result : HasLeaf p i 0 0 [] = of_kind h to (Op to from) inside at refl (ap (λ y. slice_get y 0) (wf.op_leaf i h to from inside at)) in
        let source : IsMarked p (node d.0 d.1 a) (mark d.0 d.1 q.0) = record { place = refl; index = refl; has = leaf } in
        let end : IsMarked p (node i 0 0) (mark i 0 []) = record { place = refl; index = refl; has = result } in
        let moves : MovesBy p (DefinedAt p) (FactsOf p x) pr (mark d.0 d.1 q.0) Plain (mark i 0 []) =
        plain r (Op to from) (record { function = h; is_in = inside; is_live = live }) at (in_member r from read, refl, refl) def in
        record {
          from = n.from;
          to = n.to;
          is_from = n.is_from;
          is_to = n.is_to;
          edge = record {
            from = mark d.0 d.1 q.0;
            to = mark i 0 [];
            is_from = subst (λ w. IsMarked p w (mark d.0 d.1 q.0)) (sym n.row.0) source;
            is_to = subst (λ w. IsMarked p w (mark i 0 [])) (sym n.row.2) end;
            moves = subst (λ w. MovesBy p (DefinedAt p) (FactsOf p x) pr (mark d.0 d.1 q.0) w (mark i 0 [])) (sym n.row.1) moves;
          };
        }

    pub is_op : (d j i r to : ℕ) (q : List PathStep) (from : List ℕ) → IsLivePlaceIn p (FactsOf p x) i → IsAt p i (Op to from) → member r from ≡ true → DefinedAt p d j r i → (e : Edge) (a b : Node)
        → slice_get x.nodes e.from ≡ Some a → slice_get x.nodes e.to ≡ Some b → IsMarked p a (mark d j q) → IsMarked p b (mark i 0 []) → e.kind ≡ Plain → OfFunctions p x.nodes ds x.live e
    is_op d j i r to q from live at read def e a b is_from is_to source end kind =
        let h = live.function in
        let inside = live.is_in in
        let fn = inside.fn in
        let m = member_in r from read in
        let leaf = definition_leaf p wf h fn inside.is d j r i a.leaf q def inside source.has in
        let result = node_leaf p wf h fn inside.is i 0 b.leaf to [] (Op to from) inside at refl end.has in
        let first : b.leaf ≡ 0 = first_alone b.leaf [] (ap (λ y. slice_get y b.leaf) (sym (wf.op_leaf i h to from inside at) ∙ register_leaves p h fn to inside.is) ∙ result) in (
          h,
          live.is_live,
          (
            i,
            inside,
            (
              to,
              from,
              at,
              (
                r,
                m,
                (
                  (d, j),
                  definition_listed p wf ds exact h fn inside.is i d j r (Op to from) inside at m def,
                  (
                    a.leaf,
                    get_within (leaves_of fn r) a.leaf q leaf,
                    record {
                      from = a;
                      to = b;
                      is_from = is_from;
                      is_to = is_to;
                      row = (same_node a (node d j a.leaf) source.place source.index refl, kind, same_node b (node i 0 0) end.place end.index first);
                    },
                  ),
                ),
              ),
            ),
          ),
        )

  pub is_external : (i j k target : ℕ) (q q' : List PathStep) (takes : Bool) (to args : List ℕ) (callee : Callee) (fn : Function) → IsAt p i (Call to callee args) → FactsOf p x (Targets i target takes) → IsFunction p target fn
      → fn.external ≡ Some true → cleans p pr i target ≡ false → k < length (arguments callee args) → j < length to → (e : Edge) (a b : Node)
      → slice_get x.nodes e.from ≡ Some a → slice_get x.nodes e.to ≡ Some b → IsMarked p a (mark i (length to + k) q) → IsMarked p b (mark i j q') → e.kind ≡ Plain → OfExternals p x pr e
  is_external i j k target q q' takes to args callee fn at t is flows passes within results e a b is_from is_to source end kind = (
    i,
    record {
      to = to;
      callee = callee;
      args = args;
      at = at;
      out = (target, t.0, record { fn = fn; is = is; flows = flows; passes = passes });
      from = a;
      is_from = is_from;
      argument = (source.place, (k, within, source.index));
      end = b;
      is_to = is_to;
      result = (end.place, subst (λ w. w < length to) (sym end.index) results);
      plain = kind;
    },
  )

  module _ (fits : FitsPoints p x) where
    -- a node that has a number has a mark
    mark_of : (n i k : ℕ) (a : Node) → slice_get x.nodes n ≡ Some a → a.place ≡ i → a.index ≡ k → (q : List PathStep) × IsMarked p a (mark i k q)
    mark_of n i k a is place index =
        let m = ((nodes_are p wf).each a).0 (subst (In a) fits.nodes (in_of_get x.nodes n a is)) in
        let b : Mark = m.0 in
        let at : b.place ≡ i = sym m.1.place ∙ place in
        let on : b.index ≡ k = sym m.1.index ∙ index in
        let leaf : HasLeaf p i k a.leaf b.leaf = subst (λ z. HasLeaf p z k a.leaf b.leaf) at (subst (λ z. HasLeaf p b.place z a.leaf b.leaf) on m.1.has) in
        (b.leaf, record { place = place; index = index; has = leaf })

    pub external_is : (e : Edge) → OfExternals p x pr e → Numbered e
    external_is e (i, o) =
        let k = o.argument.1 in
        let g = o.out.0 in
        let f = o.out.2 in
        let source = mark_of e.from i (length o.to + k.0) o.from o.is_from o.argument.0 k.2 in
        let end = mark_of e.to i o.end.index o.end o.is_to o.result.0 refl in
        let moves : MovesBy p (DefinedAt p) (FactsOf p x) pr (mark i (length o.to + k.0) source.0) Plain (mark i o.end.index end.0) =
        external k.0 g (takes_reference o.callee f.fn) o.to o.args o.callee f.fn o.at
        (o.out.1, record { kind = Call o.to o.callee o.args; callee = o.callee; args = o.args; behind = length o.to; fn = f.fn; at = o.at; hands = by_call; is = f.is; takes_it = refl })
        f.is f.flows f.passes k.1 o.result.1 in
        record {
          from = o.from;
          to = o.end;
          is_from = o.is_from;
          is_to = o.is_to;
          edge = record {
            from = mark i (length o.to + k.0) source.0;
            to = mark i o.end.index end.0;
            is_from = source.1;
            is_to = end.1;
            moves = subst (λ w. MovesBy p (DefinedAt p) (FactsOf p x) pr (mark i (length o.to + k.0) source.0) w (mark i o.end.index end.0)) (sym o.plain) moves;
          };
        }
