use Rattle.std.proofs.Common.{◌≡◌, take, drop, []}
use Rattle.argot_first_form.specs.Checks.{steps_fit}
use Rattle.argot_first_form.proofs.scopes.all_steps_fit.Given as goal

abbrev pub invariant-loop-i : goal.invariant-loop-i
invariant-loop-i l = steps_fit l.scope.functions.now [] l.steps ≡ steps_fit l.scope.functions.now (take l.i l.steps) (drop l.i l.steps)
