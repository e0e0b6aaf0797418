use Rattle.std.proofs.Common.{◌≤◌, length, drop}
use Rattle.argot_first_form.specs.Names.{HasFunctions}
use Rattle.argot_first_form.proofs.names.function_numbers.Given as goal

abbrev pub invariant-loop-i : goal.invariant-loop-i
invariant-loop-i l = record { within : l.i ≤ length l.functions; has : HasFunctions l.names l.i (drop l.i l.functions) }

abbrev pub decreases-loop-i : goal.decreases-loop-i
decreases-loop-i l = l.i
