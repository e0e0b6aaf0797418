use Rattle.std.proofs.Common.{◌∙◌, arith}
use Rattle.std.proofs.lemmas.Grind.{common_steps}
use Rattle.argot_show.proofs.TreeLaws.{node_more}
use Rattle.argot_show.proofs.trees.write_nodes.Goals as goal

pub loop-node-preserved : goal.loop-node-preserved
loop-node-preserved g c = record {
  there = c.in_ok-put_node.ensures.there;
  faults = c.in_ok-flush.ensures.kept ∙ c.loop-node.invariant.faults;
  taken =
      node_more c.args.bytes.now c.args.tokens.now c.args.nodes.now c.loop-node.node-index _ (g.O.Sink.taken c.loop-node.out) (g.O.Sink.taken c.flush.new.out) _ c.loop-node.text.items c.put_node.new.text.items c.flush.new.text.items c.as_slice.result.now c.loop-node.around.items c.pass_node.new.around.items
      (grind (arith, common_steps))
      c.as_slice.ensures.value
      c.in_ok-put_node.ensures.line
      c.in_ok-pass_node.ensures
      c.in_ok-flush.ensures.ok
      c.loop-node.invariant.taken;
}
