use Rattle.std.proofs.Common.{◌≡◌, drop}
use Rattle.argot_plain_parts.specs.Leaves.{no_path_twice}
use Rattle.argot_plain_parts.proofs.leaves.no_pair_is_same.Given as goal

abbrev pub invariant-loop-i : goal.invariant-loop-i
invariant-loop-i l = no_path_twice (drop l.i l.paths) ≡ no_path_twice l.paths
