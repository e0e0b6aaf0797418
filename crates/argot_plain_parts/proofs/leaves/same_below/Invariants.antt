use Rattle.std.proofs.Common.{◌≡◌, drop}
use Rattle.argot_plain_parts.specs.Leaves.{same_below}
use Rattle.argot_plain_parts.proofs.leaves.same_below.Given as goal

abbrev pub invariant-loop-i : goal.invariant-loop-i
invariant-loop-i l = same_below l.path (drop l.i l.from) l.rest ≡ same_below l.path l.from l.to
