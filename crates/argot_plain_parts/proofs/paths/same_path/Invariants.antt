use Rattle.std.proofs.Common.{◌≡◌, drop}
use Rattle.argot_plain.specs.Lists.{same_path}
use Rattle.argot_plain_parts.proofs.paths.same_path.Given as goal

abbrev pub invariant-loop-i : goal.invariant-loop-i
invariant-loop-i l = same_path (drop l.i l.a) (drop l.i l.b) ≡ same_path l.a l.b
