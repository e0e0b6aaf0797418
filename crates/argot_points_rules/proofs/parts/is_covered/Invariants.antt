use Rattle.std.proofs.Common.{◌≡◌, drop}
use Rattle.argot_plain.specs.Machine.{is_covered}
use Rattle.argot_points_rules.proofs.parts.is_covered.Given as goal

abbrev pub invariant-loop-n : goal.invariant-loop-n
invariant-loop-n l = is_covered l.path (drop l.n l.parts) ≡ is_covered l.path l.parts
