use Rattle.std.proofs.Common.{◌≡◌, drop}
use Rattle.argot_plain_parts.specs.Leaves.{same_elements}
use Rattle.argot_plain_parts.proofs.leaves.same_elements.Given as goal

abbrev pub invariant-loop-i : goal.invariant-loop-i
invariant-loop-i l = same_elements (drop l.i l.a) (drop l.i l.b) ≡ same_elements l.a l.b
