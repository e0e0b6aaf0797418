use Rattle.std.proofs.Common.{◌≡◌, ℕ, List, [], ◌++◌, ◌⊎◌, slice_index_or, nat_eq}
use Rattle.std.specs.HashSet.{IsUnique}
use Rattle.argot_names_rules.specs.Lists.{In}
use Rattle.argot_names_imports.specs.Graph.{Leads}
use Rattle.argot_names_imports.proofs.reaching.expand.Given as goal

abbrev pub invariant-loop-t : goal.invariant-loop-t
invariant-loop-t l = record {
  rest : l.yielded ++ l.t-iterator ≡ slice_index_or l.graph.lists l.node [];
  there : (t : ℕ) → In t l.yielded → In t l.reached.keys;
  kept : (more : List ℕ) × (l.reached.keys ≡ l.fn.reached.keys ++ more);
  only : (t : ℕ) → In t l.reached.keys → In t l.fn.reached.keys ⊎ Leads l.graph.lists l.node t;
  unique : IsUnique nat_eq l.reached;
}
