-- What is drawn and what meets are all edges.
use Rattle.std.proofs.Common.{◌≡◌, ℕ, List, Some, length, refl, sym, ap, ◌∙◌, subst, inl, inr}
use Rattle.std.specs.Prelude.{◌⊎◌, slice_get}
use Rattle.argot_plain.specs.Code.{Code}
use Rattle.argot_plain.specs.Nodes.{Mark}
use Rattle.argot_plain.specs.WellFormed.{WellFormed}
use Rattle.argot_plain.specs.declared.problems.Problem.{Problem}
use Rattle.argot_facts.specs.Exact.{AreDefs, AreEscapingBy, AreFollowingBy}
use Rattle.argot_facts.specs.Graphs.{IsMarked}
use Rattle.argot_facts.specs.Handed.{FactsOf}
use Rattle.argot_facts.specs.Pointing.{Pointing, FitsPoints}
use Rattle.argot_facts.specs.Reaching.{DefinedAt}
use Rattle.argot_facts.specs.declared.graphs.Edge.{Edge}
use Rattle.argot_facts.specs.declared.graphs.EdgeKind.{EdgeKind}
use Rattle.argot_facts.specs.declared.nodes.Node.{Node}
use Rattle.argot_points_rules.specs.Column.{rules_of}
use Rattle.argot_graph_edges.specs.Accessing.{Written, Readable}
use Rattle.argot_graph_edges.specs.Whole.{Drawn, Met, IsEdgeOf, RunsAre}
use Rattle.argot_graph_edges.specs.declared.arguments.Writes.{Writes}
use Rattle.argot_graph_edges.proofs.Argued.{argument_is, is_argument}
use Rattle.argot_graph_edges.proofs.Others.{op_is, is_op, external_is, is_external}
use Rattle.argot_graph_edges.proofs.Reaching.{found_reachable, reachable_found}
use Rattle.argot_graph_edges.proofs.Reading.{readable_is, read_is}
use Rattle.argot_graph_edges.proofs.Resets.{object_is, is_object}
use Rattle.argot_graph_edges.proofs.RulesCover.{IsOther, other_op, other_external, other_object, other_argument, covered}
use Rattle.argot_graph_edges.proofs.RulesSound.{ruled}

module _ (p : Code) (x : Pointing) (wf : WellFormed p) (fits : FitsPoints p x) (pr : Problem) (ds : List (ℕ × ℕ × ℕ)) (exact : AreDefs p ds) where
  pub drawn_is : (e : Edge) → Drawn p x pr (rules_of p ds) ds e → IsEdgeOf p x pr e
  drawn_is e (inl (inl (o, m, r))) = record { from = r.from; to = r.to; is_from = r.is_from; is_to = r.is_to; edge = ruled p wf x pr ds exact o m r.from r.to e.kind r.row }
  drawn_is e (inl (inr r)) = op_is p wf x pr ds exact e r
  drawn_is e (inr r) = external_is p wf x pr fits e r

  module _ (W : Writes) (reads : List (List ℕ)) (escaping : AreEscapingBy p (FactsOf p x) W.order.now.escaping.now) (following : AreFollowingBy p (FactsOf p x) W.order.now.control.now)
      (ws : RunsAre (length x.locations) (Written x (rules_of p ds)) W.runs.now) (rs : RunsAre (length x.locations) (Readable x (rules_of p ds)) reads) where
    pub met_is : (e : Edge) → Met p x pr W reads e → IsEdgeOf p x pr e
    met_is e (inl r) =
        object_is p x wf fits pr W.order.now.escaping.now W.order.now.control.now escaping following ds exact W.runs.now reads ws rs (readable_is p x wf fits ds exact) (read_is p x wf fits ds exact) e r
    met_is e (inr r) = argument_is p x wf fits pr W escaping following ds exact ws (found_reachable p wf x fits) (reachable_found p wf x fits) e r

    other : (m n : Mark) (kind : EdgeKind) → IsOther p (DefinedAt p) (FactsOf p x) pr m kind n → (e : Edge) (a b : Node) → slice_get x.nodes e.from ≡ Some a → slice_get x.nodes e.to ≡ Some b
        → IsMarked p a m → IsMarked p b n → e.kind ≡ kind → Drawn p x pr (rules_of p ds) ds e ⊎ Met p x pr W reads e
    other _ _ _ (other_op {d = d} {j = j} {i = i} {q = q} r to from live at has def) e a b ga gb ma mb k = inl (inl (inr (is_op p wf x pr ds exact d j i r to q from live at has def e a b ga gb ma mb k)))
    other _ _ _ (other_external {i = i} {j = j} {q = q} {q' = q'} k' target takes to args callee fn at t is flows passes within results) e a b ga gb ma mb k =
        inl (inr (is_external p wf x pr i j k' target q q' takes to args callee fn at t is flows passes within results e a b ga gb ma mb k))
    other m n _ (other_object s path wr rd may) e a b ga gb ma mb k =
        inr (inl (is_object p x wf fits pr W.order.now.escaping.now W.order.now.control.now escaping following ds exact W.runs.now reads ws rs (readable_is p x wf fits ds exact) (read_is p x wf fits ds exact) m n s path wr rd may e a b ga gb ma mb k))
    other m _ _ (other_argument {i = i} {q = q} k' s target n at takes path kind callee args is hands t looks low leaf reach wr read may) e a b ga gb ma mb k =
        inr (inr (is_argument p x wf fits pr W escaping following ds exact ws (found_reachable p wf x fits) (reachable_found p wf x fits) m i k' s target n at q takes path kind callee args is hands t looks low leaf reach wr read may e a b ga gb ma mb k))

    pub all_are : (e : Edge) → IsEdgeOf p x pr e → Drawn p x pr (rules_of p ds) ds e ⊎ Met p x pr W reads e
    all_are e n =
        elim (covered p wf x pr ds exact n.edge.from n.edge.to e.kind n.edge.moves n.from n.to n.edge.is_from n.edge.is_to) [
          | inl r ↦ inl (inl (inl (r.0, r.1, record { from = n.from; to = n.to; is_from = n.is_from; is_to = n.is_to; row = r.2 })))
          | inr o ↦ other n.edge.from n.edge.to e.kind o e n.from n.to n.is_from n.is_to n.edge.is_from n.edge.is_to refl
        ]
