use Rattle.std.proofs.Common.{◌≡◌, ◌-◌, ◌++◌}
use Rattle.argot_facts.specs.Numbers.{leaf_nodes}
use Rattle.argot_points_rules.proofs.nodes.push_leaf_nodes.Given as goal

abbrev pub invariant-loop-leaf : goal.invariant-loop-leaf
invariant-loop-leaf l = l.nodes.items ++ leaf_nodes l.place l.index l.leaf (l.leaves - l.leaf) ≡ l.fn.nodes.items ++ leaf_nodes l.place l.index 0 l.leaves
