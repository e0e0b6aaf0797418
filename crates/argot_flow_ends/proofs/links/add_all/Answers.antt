use Rattle.std.proofs.Common.{◌≡◌, ◌+◌, ◌<◌, length, take, get_or, ap, ◌∙◌, subst, sym, arith}
use Rattle.std.proofs.Math.Seq.{take-length}
use Rattle.std.proofs.lemmas.List.{take_more}
use Rattle.std.proofs.lemmas.Option.{slice_get-get_or}
use Rattle.argot_facts.proofs.Listed.{in_of_get}
use Rattle.argot_flow_ends.specs.Linking.{AddsFlows, IsLinkToSome, IsLinkOfSome}
use Rattle.argot_flow_ends.proofs.Linked.{adds_more}
use Rattle.argot_flow_ends.proofs.links.add_all.Goals as goal

pub run-requires : goal.run-requires
run-requires c =
    let s = get_or c.args.sources.now c.loop-k.k 0 in
    let below = c.requires.sources s (in_of_get c.args.sources.now c.loop-k.k s (slice_get-get_or c.args.sources.now c.loop-k.k 0 c.loop-k-test.true)) in
    subst (λ n. s < n) (sym c.loop-k.invariant.nodes) below

pub add_from-requires-clause-source : goal.add_from-requires-clause-source
add_from-requires-clause-source c = c.requires.sources _ (in_of_get c.args.sources.now c.loop-k.k _ (slice_get-get_or c.args.sources.now c.loop-k.k _ c.loop-k-test.true))

pub loop-k-preserved : goal.loop-k-preserved
loop-k-preserved c =
    let links = c.args.links.now in
    let xs = c.args.sources.now in
    let i = c.loop-k.invariant in
    record {
      edges = c.run.ensures.edges ∙ i.edges;
      nodes = c.run.ensures.nodes ∙ i.nodes;
      flows = adds_more (λ s. IsLinkToSome links.graph.now.edges links.graph.now.nodes links.problem s links.ends.now)
          (take c.loop-k.k xs) (take (c.loop-k.k + 1) xs) (get_or xs c.loop-k.k 0) _ _ _ (take_more xs c.loop-k.k 0 c.loop-k-test.true) i.flows c.in_ok-add_from.ensures;
    }

pub returns : goal.returns
returns c =
    let links = c.args.links.now in
    let xs = c.args.sources.now in
    let e : c.loop-k.k ≡ length xs = omega arith in
    subst (λ ys. AddsFlows (IsLinkOfSome links.graph.now.edges links.graph.now.nodes links.problem ys links.ends.now) c.args.flows.now.items c.loop-k.flows.items)
    (ap (λ n. take n xs) e ∙ take-length xs) c.loop-k.invariant.flows
