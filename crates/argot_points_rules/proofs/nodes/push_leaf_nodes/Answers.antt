use Rattle.argot_points_rules.proofs.Counting.{pushed_all, leaf_nodes_next}
use Rattle.argot_points_rules.proofs.nodes.push_leaf_nodes.Goals as goal

pub loop-leaf-preserved : goal.loop-leaf-preserved
loop-leaf-preserved c = pushed_all _ _ _ _ _ _ c.loop-leaf.invariant (leaf_nodes_next _ _ _ _ c.loop-leaf-test.true) c.in_ok-push.ensures.items
