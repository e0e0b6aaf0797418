use Rattle.std.proofs.Common.{◌≡◌, drop}
use Rattle.argot_plain_parts.specs.Numbers.{no_number_twice}
use Rattle.argot_plain_parts.proofs.numbers.no_number_twice.Given as goal

abbrev pub invariant-loop-i : goal.invariant-loop-i
invariant-loop-i l = no_number_twice (drop l.i l.numbers) ≡ no_number_twice l.numbers
