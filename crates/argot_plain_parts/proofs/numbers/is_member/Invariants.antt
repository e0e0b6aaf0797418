use Rattle.std.proofs.Common.{◌≡◌, drop}
use Rattle.argot_plain.specs.Lists.{member}
use Rattle.argot_plain_parts.proofs.numbers.is_member.Given as goal

abbrev pub invariant-loop-i : goal.invariant-loop-i
invariant-loop-i l = member l.number (drop l.i l.numbers) ≡ member l.number l.numbers
