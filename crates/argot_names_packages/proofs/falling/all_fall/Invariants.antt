use Rattle.std.proofs.Common.{ℕ, ◌<◌}
use Rattle.argot_names_rules.specs.Lists.{In}
use Rattle.argot_names_packages.specs.Ranks.{FallsFrom}
use Rattle.argot_names_packages.proofs.falling.all_fall.Given as goal

abbrev pub invariant-loop-node : goal.invariant-loop-node
invariant-loop-node l = (j : ℕ) → j < l.node → In j l.reached.keys → FallsFrom l.graph.lists l.ranks j
