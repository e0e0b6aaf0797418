use Rattle.std.proofs.Common.{◌≡◌, drop}
use Rattle.argot_plain_parts.specs.Functions.{each_register_fits}
use Rattle.argot_plain_parts.proofs.functions.each_register_fits.Given as goal

abbrev pub invariant-loop-i : goal.invariant-loop-i
invariant-loop-i l = each_register_fits (drop l.i l.registers) ≡ each_register_fits l.registers
