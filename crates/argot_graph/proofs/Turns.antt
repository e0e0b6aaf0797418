-- Edges that are turned.
use Rattle.std.proofs.Common.{◌≡◌, ◌<◌, List, map, length, refl, sym, ap, ◌∙◌, subst}
use Rattle.argot_plain.specs.Lists.{In}
use Rattle.argot_facts.proofs.Listed.{In-map, In-mapped}
use Rattle.argot_facts.specs.Graphs.{Drawn, EdgeBefore, IsGraph, IsOrdered, turned_kind}
use Rattle.argot_facts.specs.declared.graphs.Edge.{Edge}
use Rattle.argot_facts.specs.declared.graphs.EdgeKind.{EdgeKind}
use Rattle.argot_facts.specs.declared.graphs.EdgeKind.TheVariants.{Plain, Call, Return, Reset}
use Rattle.argot_graph.specs.Order.{HaveSame}
use Rattle.argot_graph.specs.Turning.{turned, IsTurned}

kind_twice : (k : EdgeKind) → turned_kind (turned_kind k) ≡ k
kind_twice Plain = refl
kind_twice (Call c) = refl
kind_twice (Return c) = refl
kind_twice Reset = refl

-- turned twice, it is as it was
twice : (e : Edge) → turned (turned e) ≡ e
twice e = ap (λ k. record { from = e.from; to = e.to; kind = k }) (kind_twice e.kind)

module _ (old : Drawn) (well : IsGraph old) (edges : List Edge) (ordered : IsOrdered EdgeBefore edges) (same : HaveSame edges (map turned old.edges)) where
  pub is_graph : IsGraph (record { nodes = old.nodes; edges = edges })
  is_graph = record {
    nodes = well.nodes;
    edges = ordered;
    ends = λ e m.
        let x = In-mapped turned e old.edges ((same e).0 m) in
        let ends = well.ends x.0 x.1 in
        subst (λ (y : Edge). (y.from < length old.nodes) × (y.to < length old.nodes)) (sym x.2) (ends.1, ends.0);
  }

  pub is_turned : IsTurned old (record { nodes = old.nodes; edges = edges })
  is_turned = record {
    nodes = refl;
    each = λ e. (
      λ m. let x = In-mapped turned e old.edges ((same e).0 m) in subst (λ y. In y old.edges) (sym (ap turned x.2 ∙ twice x.0)) x.1,
      λ m. (same e).1 (subst (λ y. In y (map turned old.edges)) (twice e) (In-map turned (turned e) old.edges m)),
    );
  }
