use Rattle.std.proofs.Common.{◌≡◌, length, subst, sym, ap, ◌∙◌, arith}
use Rattle.argot_plain.specs.Lists.{In}
use Rattle.argot_facts.proofs.Listed.{in_of_get}
use Rattle.argot_summary.specs.Netted.{AreRising}
use Rattle.argot_summary.proofs.Exactness.{ordered_rises}
use Rattle.argot_summary.proofs.sums.summarise.Goals as goal

pub facts_of-requires-clause-ends : goal.facts_of-requires-clause-ends
facts_of-requires-clause-ends c = λ k e at.
    let same : c.as_slice.result.now ≡ c.args.graph.now.edges = c.as_slice.ensures.value ∙ c.edges-edges.ensures.edges in
    let both = c.edges-edges.ensures.well.ends e (subst (λ es. In e es) same (in_of_get c.as_slice.result.now k e at)) in
    let count : length c.nodes.result.now.items ≡ length c.args.graph.now.nodes = ap length c.nodes.ensures.nodes in
    let _told = c.in-Ok.ensures in
    (omega (arith, both.0, count, c.in-Ok.ensures), omega (arith, both.1, count, c.in-Ok.ensures))

pub facts_of-requires-clause-rising : goal.facts_of-requires-clause-rising
facts_of-requires-clause-rising c =
    let same : c.as_slice.result.now ≡ c.args.graph.now.edges = c.as_slice.ensures.value ∙ c.edges-edges.ensures.edges in
    subst AreRising (sym same) (ordered_rises c.args.graph.now.edges c.edges-edges.ensures.well.edges)

pub put_in_order-requires : goal.put_in_order-requires
put_in_order-requires c = record { apart = c.in_ok-facts.ensures.exact.apart }
