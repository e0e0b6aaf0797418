use Rattle.std.proofs.Common.{◌≡◌, ◌++◌, drop}
use Rattle.argot_plain.specs.Lists.{has_path}
use Rattle.argot_plain_parts.proofs.leaves.has_joined.Given as goal

abbrev pub invariant-loop-i : goal.invariant-loop-i
invariant-loop-i l = has_path (l.front ++ l.rest) (drop l.i l.whole) ≡ has_path (l.front ++ l.rest) l.whole
