use Rattle.std.proofs.Common.{ℕ, ◌<◌}
use Rattle.argot_names_packages.specs.Mains.{IsMainNode}
use Rattle.argot_names_packages.proofs.main_function.has_main_node.Given as goal

abbrev pub invariant-loop-k : goal.invariant-loop-k
invariant-loop-k l = (j : ℕ) → j < l.k → IsMainNode l.file j → ⊥
