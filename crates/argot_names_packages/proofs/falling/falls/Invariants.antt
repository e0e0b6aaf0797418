use Rattle.std.proofs.Common.{◌≡◌, ℕ, ◌<◌, [], ◌++◌, slice_index_or}
use Rattle.argot_names_rules.specs.Lists.{In}
use Rattle.argot_names_packages.specs.Ranks.{rank_of}
use Rattle.argot_names_packages.proofs.falling.falls.Given as goal

abbrev pub invariant-loop-t : goal.invariant-loop-t
invariant-loop-t l = record {
  rest : l.yielded ++ l.t-iterator ≡ slice_index_or l.graph.lists l.node [];
  fall : (t : ℕ) → In t l.yielded → 0 < rank_of l.ranks t → rank_of l.ranks t < rank_of l.ranks l.node;
}
