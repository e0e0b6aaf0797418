use Rattle.std.proofs.Common.{◌≡◌, drop}
use Rattle.argot_plain_parts.specs.Functions.{ranges_fit}
use Rattle.argot_plain_parts.proofs.functions.ranges_fit.Given as goal

abbrev pub invariant-loop-i : goal.invariant-loop-i
invariant-loop-i l = ranges_fit l.next l.count (drop l.i l.functions) ≡ ranges_fit 0 l.count l.functions
