use Rattle.std.proofs.Common.{◌≡◌, drop}
use Rattle.argot_plain_parts.specs.Leaves.{are_ascending}
use Rattle.argot_plain_parts.proofs.leaves.are_ascending.Given as goal

abbrev pub invariant-loop-i : goal.invariant-loop-i
invariant-loop-i l = are_ascending (drop l.i l.paths) ≡ are_ascending l.paths
