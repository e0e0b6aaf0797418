-- A sketch that is put in order is the graph.
use Rattle.std.proofs.Common.{◌≡◌, ◌<◌, false, true, ℕ, List, length, sym, ap, ◌∙◌, subst}
use Rattle.argot_plain.specs.Code.{Code}
use Rattle.argot_plain.specs.Lists.{In}
use Rattle.argot_plain.specs.WellFormed.{WellFormed}
use Rattle.argot_plain.specs.declared.problems.Problem.{Problem}
use Rattle.argot_facts.specs.Exact.{HasManyEdgesBy}
use Rattle.argot_facts.specs.Graphs.{AreNodes, Drawn, EdgeBefore, IsGraph, IsGraphBy, IsNumberedBy, IsOrdered}
use Rattle.argot_facts.specs.Handed.{FactsOf}
use Rattle.argot_facts.specs.Pointing.{Pointing, FitsPoints}
use Rattle.argot_facts.specs.Reaching.{DefinedAt}
use Rattle.argot_facts.specs.declared.graphs.Edge.{Edge}
use Rattle.argot_facts.specs.declared.nodes.Node.{Node}
use Rattle.argot_facts.proofs.Listed.{get_within}
use Rattle.argot_facts.proofs.Marked.{nodes_are}
use Rattle.argot_graph.specs.Order.{HaveSame}
use Rattle.argot_graph_edges.specs.Adding.{AreMany}
use Rattle.argot_graph_edges.specs.Whole.{IsEdgeOf, IsSketchOf}
use Rattle.argot_graph_edges.specs.declared.sketch.Sketch.{Sketch}

module _ (p : Code) (x : Pointing) (wf : WellFormed p) (fits : FitsPoints p x) (pr : Problem) (sketch : Sketch) (all : IsSketchOf p x pr sketch) where
  are_nodes : (nodes : List Node) → nodes ≡ x.nodes → AreNodes p nodes
  are_nodes nodes n = subst (AreNodes p) (sym (n ∙ fits.nodes)) (nodes_are p wf)

  pub has_many : (es : List Edge) → AreMany es → ((e : Edge) → In e es → In e sketch.edges.items) → HasManyEdgesBy p (DefinedAt p) (FactsOf p x) pr
  has_many es many sub = record { nodes = x.nodes; are = subst (AreNodes p) (sym fits.nodes) (nodes_are p wf); edges = es; ordered = many.ordered; each = λ e m. all.only e (sub e m); many = many.many }

  module _ (nodes : List Node) (edges : List Edge) (n : nodes ≡ x.nodes) (ordered : IsOrdered EdgeBefore edges) (same : HaveSame edges sketch.edges.items) where
    abbrev graph : Drawn
    graph = record { nodes = nodes; edges = edges }

    numbered : (e : Edge) → In e edges → IsNumberedBy p (DefinedAt p) (FactsOf p x) pr nodes e.from e.kind e.to
    numbered e m = subst (λ ns. IsNumberedBy p (DefinedAt p) (FactsOf p x) pr ns e.from e.kind e.to) (sym n) (all.only e ((same e).0 m))

    pub is_graph : IsGraph (record { nodes = nodes; edges = edges })
    is_graph = record {
      nodes = (are_nodes nodes n).ordered;
      edges = ordered;
      ends = λ e m. let r = numbered e m in (get_within nodes e.from r.from r.is_from, get_within nodes e.to r.to r.is_to);
    }

    pub is_graph_by : sketch.full ≡ false → IsGraphBy p (DefinedAt p) (FactsOf p x) pr (record { nodes = nodes; edges = edges })
    is_graph_by whole = record {
      nodes = are_nodes nodes n;
      each = λ e. (numbered e, λ r. (same e).1 (all.there whole e (subst (λ ns. IsNumberedBy p (DefinedAt p) (FactsOf p x) pr ns e.from e.kind e.to) n r)));
    }
