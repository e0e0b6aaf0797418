use Rattle.std.proofs.Common.{◌≡◌, map, sym, ap, ◌∙◌, subst}
use Rattle.argot_facts.specs.Graphs.{IsGraph}
use Rattle.argot_graph.specs.Order.{HaveSame}
use Rattle.argot_graph.specs.Turning.{turned, IsTurned}
use Rattle.argot_graph.proofs.Turns.{is_graph, is_turned}
use Rattle.argot_graph.proofs.turning.turn.Goals as goal

pub from_parts-requires : goal.from_parts-requires
from_parts-requires g c =
    let old = c.args.graph.now in
    let nodes : c.from_vec.result ≡ old.nodes = c.from_vec.ensures ∙ (c.in_ok-nodes.ensures ∙ (c.as_slice.ensures.value ∙ c.nodes.ensures.nodes)) in
    let all : c.in_ok-edges.edges.items ≡ map turned old.edges = c.in_ok-edges.ensures ∙ ap (map turned) (c.as_slice-2.ensures.value ∙ c.edges.ensures.edges) in
    let same : HaveSame c.in_ok-edges-2.edges.items (map turned old.edges) = subst (HaveSame c.in_ok-edges-2.edges.items) all c.in_ok-edges-2.ensures.same in
    let well = is_graph old c.nodes.ensures.well c.in_ok-edges-2.edges.items c.in_ok-edges-2.ensures.ordered same in
    subst (λ ns. IsGraph (record { nodes = ns; edges = c.from_vec-2.result })) (sym nodes)
    (subst (λ es. IsGraph (record { nodes = old.nodes; edges = es })) (sym c.from_vec-2.ensures) well)

pub returns : goal.returns
returns g c =
    let old = c.args.graph.now in
    let nodes : c.from_vec.result ≡ old.nodes = c.from_vec.ensures ∙ (c.in_ok-nodes.ensures ∙ (c.as_slice.ensures.value ∙ c.nodes.ensures.nodes)) in
    let all : c.in_ok-edges.edges.items ≡ map turned old.edges = c.in_ok-edges.ensures ∙ ap (map turned) (c.as_slice-2.ensures.value ∙ c.edges.ensures.edges) in
    let same : HaveSame c.in_ok-edges-2.edges.items (map turned old.edges) = subst (HaveSame c.in_ok-edges-2.edges.items) all c.in_ok-edges-2.ensures.same in
    let is = is_turned old c.nodes.ensures.well c.in_ok-edges-2.edges.items c.in_ok-edges-2.ensures.ordered same in
    record {
      turned =
          subst (IsTurned old) (sym c.from_parts.ensures)
          (subst (λ ns. IsTurned old (record { nodes = ns; edges = c.from_vec-2.result })) (sym nodes)
          (subst (λ es. IsTurned old (record { nodes = old.nodes; edges = es })) (sym c.from_vec-2.ensures) is));
    }
