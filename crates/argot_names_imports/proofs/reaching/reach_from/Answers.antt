use Rattle.std.proofs.Common.{◌≡◌, Some, sym, ◌∙◌, rules, arith}
use Rattle.std.specs.Prelude.{slice_get}
use Rattle.argot_names_imports.proofs.Lists.{get_below, get_none}
use Rattle.argot_names_imports.proofs.Graphs.{reached_first, reached_more, reached_all, node_below, within_count}
use Rattle.argot_names_imports.proofs.reaching.reach_from.Goals as goal

pub expand-requires-clause-node : goal.expand-requires-clause-node
expand-requires-clause-node c = node_below c.args.graph.now.lists c.args.start c.loop-node.reached c.loop-node.at c.requires.start c.requires.below c.loop-node.invariant c.in-Some.node (c.loop-node.at, sym c.get_index.ensures.key ∙ sym c.copied.ensures ∙ c.in-Some.is)

pub loop-node-init : goal.loop-node-init
loop-node-init c = reached_first c.args.graph.now.lists c.args.start c.put.new.reached c.new-reached.result.keys (search rules) c.in_ok-put.ensures.kept c.in_ok-put.ensures.there c.in_ok-put.ensures.only c.in_ok-put.ensures.unique

pub overflow_add-at : goal.overflow_add-at
overflow_add-at c =
    let here : slice_get c.loop-node.reached.keys c.loop-node.at ≡ Some c.in-Some.node = sym c.get_index.ensures.key ∙ sym c.copied.ensures ∙ c.in-Some.is in
    omega (
      arith,
      get_below c.loop-node.reached.keys c.loop-node.at c.in-Some.node here,
      c.requires.small,
      within_count c.args.graph.now.lists c.args.start c.loop-node.reached c.loop-node.at c.requires.start c.requires.below c.loop-node.invariant,
    )

pub loop-node-smaller : goal.loop-node-smaller
loop-node-smaller c =
    let here : slice_get c.loop-node.reached.keys c.loop-node.at ≡ Some c.in-Some.node = sym c.get_index.ensures.key ∙ sym c.copied.ensures ∙ c.in-Some.is in
    omega (
      arith,
      get_below c.loop-node.reached.keys c.loop-node.at c.in-Some.node here,
      within_count c.args.graph.now.lists c.args.start c.loop-node.reached c.loop-node.at c.requires.start c.requires.below c.loop-node.invariant,
    )

pub loop-node-preserved : goal.loop-node-preserved
loop-node-preserved c =
    reached_more c.args.graph.now.lists c.args.start c.loop-node.reached c.expand.new.reached c.loop-node.at c.in-Some.node c.loop-node.invariant (sym c.get_index.ensures.key ∙ sym c.copied.ensures ∙ c.in-Some.is)
    c.in_ok-expand.ensures.there c.in_ok-expand.ensures.kept c.in_ok-expand.ensures.only c.in_ok-expand.ensures.unique

pub returns-clause-all : goal.returns-clause-all
returns-clause-all c = reached_all c.args.graph.now.lists c.args.start c.loop-node.reached c.loop-node.at c.loop-node.invariant (get_none c.loop-node.reached.keys c.loop-node.at (sym c.get_index.ensures.key ∙ sym c.copied.ensures ∙ c.in_default.is))
