use Rattle.std.proofs.Common.{◌≤◌, length, drop}
use Rattle.argot_first_form.specs.Names.{HasSteps}
use Rattle.argot_first_form.proofs.names.step_numbers.Given as goal

abbrev pub invariant-loop-i : goal.invariant-loop-i
invariant-loop-i l = record { within : l.i ≤ length l.steps; has : HasSteps l.names l.i (drop l.i l.steps) }

abbrev pub decreases-loop-i : goal.decreases-loop-i
decreases-loop-i l = l.i
