use Rattle.std.proofs.Common.{◌≡◌, drop}
use Rattle.argot_plain_parts.specs.Numbers.{all_below}
use Rattle.argot_plain_parts.proofs.numbers.all_below.Given as goal

abbrev pub invariant-loop-i : goal.invariant-loop-i
invariant-loop-i l = all_below l.bound (drop l.i l.numbers) ≡ all_below l.bound l.numbers
