use Rattle.std.proofs.Common.{◌≡◌, drop}
use Rattle.argot_plain_parts.specs.Leaves.{are_joined}
use Rattle.argot_plain_parts.proofs.leaves.are_joined.Given as goal

abbrev pub invariant-loop-i : goal.invariant-loop-i
invariant-loop-i l = are_joined l.front (drop l.i l.paths) l.whole ≡ are_joined l.front l.paths l.whole
