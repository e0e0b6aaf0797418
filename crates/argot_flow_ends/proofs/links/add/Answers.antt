use Rattle.std.proofs.Common.{◌≡◌, get_or, refl, sym, ap, ◌∙◌, subst}
use Rattle.std.specs.Prelude.{slice_get, Some}
use Rattle.std.proofs.lemmas.Option.{slice_get-get_or}
use Rattle.argot_facts.specs.Lists.{Joins}
use Rattle.argot_facts.specs.Reached.{IsEdgeIn, IsLesserRank}
use Rattle.argot_flow_ends.specs.Linking.{AddsFlows, IsLink}
use Rattle.argot_flow_ends.proofs.Linked.{adds_none, link_pushed, ranked_joins}
use Rattle.argot_flow_ends.proofs.links.add.Goals as goal

pub returns-in_default : goal.returns-in_default
returns-in_default c =
    adds_none _ _ (λ f x. c.in_default.ensures.nowhere refl c.args.source c.requires.start
    (subst (λ es. Joins (IsEdgeIn es) c.args.source c.args.end.node) (sym c.requires.edges) x.joins))

pub returns : goal.returns
returns c =
    let es = c.args.links.now.graph.now.edges in
    let ns = c.args.links.now.graph.now.nodes in
    let s = c.args.source in
    let e = c.args.end in
    let rank = subst (λ xs. IsLesserRank (IsEdgeIn xs) s e.node c.in-Some._rank) c.requires.edges (c.in-Some.ensures.some s c.requires.start) in
    let a = c.index.result.now in
    let b = c.index-2.result.now in
    let ga : slice_get ns s ≡ Some a = slice_get-get_or ns s a c.requires.source ∙ ap Some (sym (c.index.ensures ∙ ap (λ xs. get_or xs s a) c.nodes-nodes.ensures.nodes)) in
    let gb : slice_get ns e.node ≡ Some b = slice_get-get_or ns e.node b c.requires.end ∙ ap Some (sym (c.index-2.ensures ∙ ap (λ xs. get_or xs e.node b) c.nodes-nodes.ensures.nodes)) in
    subst (AddsFlows (IsLink es ns c.args.links.now.problem s e) c.args.flows.now.items) (sym c.in_ok-push.ensures.items)
    (link_pushed es ns c.args.links.now.problem s e a b c.args.flows.now.items ga gb (ranked_joins es s e.node c.in-Some._rank rank))
