use Rattle.std.proofs.Common.{ℕ, ◌-◌, length}
use Rattle.std.specs.Prelude.{◌↔◌}
use Rattle.argot_names_subset_file.specs.Receivers.{IsBase}
use Rattle.argot_names_subset_file.proofs.receivers.base_of.Given as goal

abbrev pub invariant-loop-node : goal.invariant-loop-node
invariant-loop-node l = (x : ℕ) → IsBase l.file.nodes l.fn.type_ x ↔ IsBase l.file.nodes l.at x

abbrev pub decreases-loop-node : goal.decreases-loop-node
decreases-loop-node l = length l.file.nodes - l.at
