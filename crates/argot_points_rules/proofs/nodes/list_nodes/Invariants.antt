use Rattle.std.proofs.Common.{◌≡◌, ◌≤◌, ◌++◌, drop, length}
use Rattle.argot_facts.specs.Numbers.{function_nodes}
use Rattle.argot_points_rules.proofs.nodes.list_nodes.Given as goal

abbrev pub invariant-loop-g : goal.invariant-loop-g
invariant-loop-g l = record {
  whole : l.nodes.items ++ function_nodes l.program (drop l.g l.program.functions) ≡ function_nodes l.program l.program.functions;
  few : length l.nodes.items ≤ 262144;
}
