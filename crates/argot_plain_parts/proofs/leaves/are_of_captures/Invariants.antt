use Rattle.std.proofs.Common.{◌≡◌, drop}
use Rattle.argot_plain_parts.specs.Leaves.{are_of_captures}
use Rattle.argot_plain_parts.proofs.leaves.are_of_captures.Given as goal

abbrev pub invariant-loop-i : goal.invariant-loop-i
invariant-loop-i l = are_of_captures (drop l.i l.paths) ≡ are_of_captures l.paths
