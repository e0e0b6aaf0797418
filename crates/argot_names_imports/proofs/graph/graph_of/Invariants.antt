use Rattle.std.proofs.Common.{◌≡◌, length}
use Rattle.argot_names_imports.proofs.Graphs.{HasSteps}
use Rattle.argot_names_imports.proofs.graph.graph_of.Given as goal

abbrev pub invariant-loop-k : goal.invariant-loop-k
invariant-loop-k l = record {
  count : length l.graph.lists ≡ length l.leaders;
  edges : HasSteps l.graph.lists l.leaders l.imports l.founds l.k;
}
