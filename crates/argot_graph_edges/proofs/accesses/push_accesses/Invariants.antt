use Rattle.std.proofs.Common.{◌≡◌, ◌++◌, ℕ}
use Rattle.argot_plain.specs.Lists.{In}
use Rattle.argot_graph_edges.specs.Accessing.{AddsPairs, Accesses}
use Rattle.argot_graph_edges.proofs.accesses.push_accesses.Given as goal

abbrev pub invariant-loop-y : goal.invariant-loop-y
invariant-loop-y l = record {
  rest : l.yielded ++ l.y-iterator ≡ l.initial.y-iterator;
  adds : AddsPairs (λ w. (y : ℕ) × In y l.yielded × Accesses l.points.locations y l.path l.node w) l.initial.pairs.items l.pairs.items;
}
