use Rattle.std.proofs.Common.{◌≡◌, drop}
use Rattle.argot_plain.specs.Lists.{begins_with}
use Rattle.argot_plain_parts.proofs.paths.begins_with.Given as goal

abbrev pub invariant-loop-i : goal.invariant-loop-i
invariant-loop-i l = begins_with (drop l.i l.a) (drop l.i l.b) ≡ begins_with l.a l.b
