use Rattle.std.proofs.Common.{◌≡◌, drop}
use Rattle.argot_plain_parts.specs.Leaves.{same_paths}
use Rattle.argot_plain_parts.proofs.leaves.same_paths.Given as goal

abbrev pub invariant-loop-i : goal.invariant-loop-i
invariant-loop-i l = same_paths (drop l.i l.a) (drop l.i l.b) ≡ same_paths l.a l.b
