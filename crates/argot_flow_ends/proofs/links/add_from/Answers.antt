use Rattle.std.proofs.Common.{◌≡◌, ◌+◌, length, take, get_or, ap, ◌∙◌, subst, arith}
use Rattle.std.proofs.Math.Seq.{take-length}
use Rattle.std.proofs.lemmas.List.{take_more}
use Rattle.std.proofs.lemmas.Option.{slice_get-get_or}
use Rattle.argot_facts.proofs.Listed.{in_of_get}
use Rattle.argot_flow_ends.specs.Linking.{AddsFlows, IsLink, IsLinkToSome}
use Rattle.argot_flow_ends.proofs.Linked.{adds_none, adds_more}
use Rattle.argot_flow_ends.specs.declared.lists.End.{End}
use Rattle.argot_flow_ends.proofs.links.add_from.Goals as goal

pub add-requires-clause-end : goal.add-requires-clause-end
add-requires-clause-end c = c.requires.ends _ (in_of_get c.args.links.now.ends.now c.loop-k.k _ (slice_get-get_or c.args.links.now.ends.now c.loop-k.k _ c.loop-k-test.true))

pub loop-k-init : goal.loop-k-init
loop-k-init c = adds_none _ _ (λ f h. elim h.1 [ ])

pub loop-k-preserved : goal.loop-k-preserved
loop-k-preserved c =
    let links = c.args.links.now in
    let xs = links.ends.now in
    let d : End = record { node = 0; arg = 0 } in
    adds_more (IsLink links.graph.now.edges links.graph.now.nodes links.problem c.args.source) (take c.loop-k.k xs) (take (c.loop-k.k + 1) xs) (get_or xs c.loop-k.k d) _ _ _
    (take_more xs c.loop-k.k d c.loop-k-test.true) c.loop-k.invariant c.in_ok-add.ensures

pub returns : goal.returns
returns c =
    let links = c.args.links.now in
    let xs = links.ends.now in
    let e : c.loop-k.k ≡ length xs = omega arith in
    subst (λ ys. AddsFlows (IsLinkToSome links.graph.now.edges links.graph.now.nodes links.problem c.args.source ys) c.args.flows.now.items c.loop-k.flows.items)
    (ap (λ n. take n xs) e ∙ take-length xs) c.loop-k.invariant
