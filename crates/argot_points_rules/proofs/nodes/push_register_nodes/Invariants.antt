use Rattle.std.proofs.Common.{◌≡◌, ◌++◌, map, drop}
use Rattle.argot_facts.specs.Numbers.{index_nodes, leaves_of}
use Rattle.argot_points_rules.proofs.nodes.push_register_nodes.Given as goal

abbrev pub invariant-loop-k : goal.invariant-loop-k
invariant-loop-k l = l.nodes.items ++ index_nodes l.place l.k (map (leaves_of l.function) (drop l.k l.registers)) ≡ l.fn.nodes.items ++ index_nodes l.place 0 (map (leaves_of l.function) l.registers)
