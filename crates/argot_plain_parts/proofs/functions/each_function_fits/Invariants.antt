use Rattle.std.proofs.Common.{◌≡◌, drop}
use Rattle.argot_plain_parts.specs.Functions.{each_function_fits}
use Rattle.argot_plain_parts.proofs.functions.each_function_fits.Given as goal

abbrev pub invariant-loop-i : goal.invariant-loop-i
invariant-loop-i l = each_function_fits l.functions l.instrs l.files (drop l.i l.functions) ≡ each_function_fits l.functions l.instrs l.files l.functions
