use Rattle.std.proofs.Common.{◌≡◌, ◌++◌, drop}
use Rattle.argot_facts.specs.Numbers.{index_nodes}
use Rattle.argot_points_rules.proofs.nodes.push_parameter_nodes.Given as goal

abbrev pub invariant-loop-k : goal.invariant-loop-k
invariant-loop-k l = l.nodes.items ++ index_nodes l.place l.k (drop l.k l.parameters) ≡ l.fn.nodes.items ++ index_nodes l.place 0 l.parameters
