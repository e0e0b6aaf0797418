use Rattle.std.proofs.Common.{◌≡◌, drop}
use Rattle.argot_plain.specs.Code.{parts_registers}
use Rattle.argot_plain_parts.specs.Numbers.{all_below}
use Rattle.argot_plain_parts.proofs.registers.parts_below.Given as goal

abbrev pub invariant-loop-i : goal.invariant-loop-i
invariant-loop-i l = all_below l.bound (parts_registers (drop l.i l.parts)) ≡ all_below l.bound (parts_registers l.parts)
