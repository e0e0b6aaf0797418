-- Links between the ends of flows are the flows.
use Rattle.std.proofs.Common.{◌≡◌, ℕ, List, refl, sym, ap, ◌∙◌, subst}
use Rattle.argot_plain.specs.Code.{Code}
use Rattle.argot_plain.specs.Nodes.{Mark}
use Rattle.argot_plain.specs.declared.problems.Problem.{Problem}
use Rattle.argot_facts.specs.Flows as flowing
use Rattle.argot_facts.specs.Flows.{IsSource, IsSourceBy, by_call, by_place, IsArgument, IsArgumentBy, is_argument}
use Rattle.argot_facts.specs.Graphs.{Drawn, IsGraphOf}
use Rattle.argot_facts.specs.Refers.{Holds}
use Rattle.argot_facts.specs.declared.findings.Flow.{Flow}
use Rattle.argot_facts.specs.declared.nodes.Node.{Node}
use Rattle.argot_facts.proofs.Listed.{number_of}
use Rattle.argot_flow_ends.specs.Ends.{AreSources, AreArguments}
use Rattle.argot_flow_ends.specs.Linking.{IsLink, IsLinkOfSome, flow_of}
use Rattle.argot_flow_ends.specs.declared.lists.End.{End}
use Rattle.argot_flow_ends.proofs.Joined.{nodes_joined, numbers_joined, one_node}

-- a source place is that of its nodes, and a sink's place that of its arguments'
source_place : (p : Code) (pr : Problem) (s : ℕ) (m : Mark) → IsSourceBy p (Holds p) pr s m → s ≡ m.place
source_place p pr s m (by_call to args callee target takes at holds source within) = refl
source_place p pr s m (by_place named node) = refl

sink_place : (p : Code) (pr : Problem) (t k : ℕ) (m : Mark) → IsArgumentBy p (Holds p) pr t k m → t ≡ m.place
sink_place p pr t k m (is_argument kind callee args n target takes at hands holds sink within) = refl

one_flow : (f : Flow) (problem : ℕ) (a b : Node) → f.problem ≡ problem → f.source ≡ a.place → f.sink ≡ b.place → f ≡ flow_of problem a b f.arg
one_flow f problem a b p q r =
    ap (λ x. record { problem = x; source = f.source; sink = f.sink; arg = f.arg }) p
    ∙ (ap (λ x. record { problem = problem; source = x; sink = f.sink; arg = f.arg }) q
    ∙ ap (λ x. record { problem = problem; source = a.place; sink = x; arg = f.arg }) r)

module _ (p : Code) (pr : Problem) (d : Drawn) (graph : IsGraphOf p pr d) (sources : List ℕ) (ends : List End) (are : AreSources p pr d.nodes sources) (args : AreArguments p pr d.nodes ends) (f : Flow) where
  pub link_flows : IsLinkOfSome d.edges d.nodes pr.number sources ends f → (f.problem ≡ pr.number) × flowing.Flow p pr f.source f.sink f.arg
  link_flows (s, from, (e, to, link)) =
      let a = (are s).0 from in
      let b = (args e).0 to in
      let flow : f ≡ flow_of pr.number a.0 b.0 e.arg =
      link.flow ∙ (ap (λ x. flow_of pr.number x link.to e.arg) (one_node d.nodes s link.from a.0 link.is_from a.1) ∙ ap (λ x. flow_of pr.number a.0 x e.arg) (one_node d.nodes e.node link.to b.0 link.is_to b.1)) in
      let is : flowing.Flow p pr a.0.place b.0.place e.arg = record {
        start = a.2.start;
        end = b.2.end;
        source = a.2.source;
        argument = b.2.argument;
        from = a.0;
        to = b.0;
        is_from = a.2.is;
        is_to = b.2.is;
        joins = nodes_joined p pr d graph s e.node a.0 b.0 a.1 b.1 link.joins;
      } in
      (ap (λ (x : Flow). x.problem) flow, subst (λ (x : Flow). flowing.Flow p pr x.source x.sink x.arg) (sym flow) is)

  pub flow_linked : f.problem ≡ pr.number → flowing.Flow p pr f.source f.sink f.arg → IsLinkOfSome d.edges d.nodes pr.number sources ends f
  flow_linked number is =
      let s = number_of is.from d.nodes ((graph.nodes.each is.from).1 (is.start, is.is_from)) in
      let t = number_of is.to d.nodes ((graph.nodes.each is.to).1 (is.end, is.is_to)) in
      let source : f.source ≡ is.from.place = source_place p pr f.source is.start is.source ∙ sym is.is_from.place in
      let sink : f.sink ≡ is.to.place = sink_place p pr f.sink f.arg is.end is.argument ∙ sym is.is_to.place in
      let e : End = record { node = t.0; arg = f.arg } in
      let link : IsLink d.edges d.nodes pr.number s.0 e f = record {
        joins = numbers_joined p pr d graph s.0 t.0 is.from is.to s.1 t.1 is.joins;
        from = is.from;
        to = is.to;
        is_from = s.1;
        is_to = t.1;
        flow = one_flow f pr.number is.from is.to number source sink;
      } in
      let from = (are s.0).1 (is.from, s.1, record { start = is.start; is = is.is_from; source = subst (λ i. IsSource p pr i is.start) source is.source }) in
      let to = (args e).1 (is.to, t.1, record { end = is.end; is = is.is_to; argument = subst (λ i. IsArgument p pr i f.arg is.end) sink is.argument }) in
      (s.0, from, (e, to, link))
