use Rattle.std.proofs.Common.{◌≡◌, drop}
use Rattle.argot_plain_parts.specs.Leaves.{are_of_elements}
use Rattle.argot_plain_parts.proofs.leaves.are_of_elements.Given as goal

abbrev pub invariant-loop-i : goal.invariant-loop-i
invariant-loop-i l = are_of_elements (drop l.i l.paths) ≡ are_of_elements l.paths
