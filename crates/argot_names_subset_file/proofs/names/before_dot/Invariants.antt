use Rattle.std.proofs.Common.{ℕ}
use Rattle.std.specs.Prelude.{◌↔◌}
use Rattle.argot_names_subset_file.specs.Atoms.{IsBeforeDot}
use Rattle.argot_names_subset_file.proofs.names.before_dot.Given as goal

abbrev pub invariant-loop-above : goal.invariant-loop-above
invariant-loop-above l = (s : ℕ) → IsBeforeDot l.file.nodes l.fn.k s ↔ IsBeforeDot l.file.nodes l.at s

abbrev pub decreases-loop-above : goal.decreases-loop-above
decreases-loop-above l = l.at
