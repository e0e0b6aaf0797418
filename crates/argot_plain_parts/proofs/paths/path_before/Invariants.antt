use Rattle.std.proofs.Common.{◌≡◌, drop}
use Rattle.argot_plain_parts.specs.Leaves.{path_before}
use Rattle.argot_plain_parts.proofs.paths.path_before.Given as goal

abbrev pub invariant-loop-i : goal.invariant-loop-i
invariant-loop-i l = path_before (drop l.i l.a) (drop l.i l.b) ≡ path_before l.a l.b
