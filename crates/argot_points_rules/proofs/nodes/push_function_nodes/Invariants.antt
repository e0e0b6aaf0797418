use Rattle.std.proofs.Common.{◌≡◌, ◌-◌, ◌+◌, ◌≤◌, ◌++◌, length}
use Rattle.argot_facts.specs.Numbers.{place_nodes}
use Rattle.argot_points_rules.proofs.nodes.push_function_nodes.Given as goal

abbrev pub invariant-loop-place : goal.invariant-loop-place
invariant-loop-place l = record {
  whole : l.nodes.items ++ place_nodes l.program l.function l.place (l.end - l.place) ≡ l.fn.nodes.items ++ place_nodes l.program l.function l.function.entry (l.function.leave + 1 - l.function.entry);
  few : length l.nodes.items ≤ 262144;
}
