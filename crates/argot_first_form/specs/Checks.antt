-- The conditions on main's steps, joined into one test for each step.
use Rattle.std.specs.Prelude.{List, Bool, ◌&&◌}
use Rattle.std.specs.List.{list_all}
use Rattle.argot_first_form.specs.declared.steps.Action.{Action}
use Rattle.argot_first_form.specs.declared.steps.Step.{Step}
use Rattle.argot_first_form.specs.declared.functions.Function.{Function}
use Rattle.argot_first_form.specs.Form.{each_step, declares_new, assigns_old, reads_old, calls_known, uses_result, operands_in}

abbrev pub step_fits : List Function → List Step → Action → Bool
step_fits functions before a = declares_new functions before a && (assigns_old before a && (calls_known functions a && (list_all (reads_old before) (operands_in a) && list_all (uses_result functions before) (operands_in a))))

unfoldable pub steps_fit : List Function → List Step → List Step → Bool
steps_fit functions before steps = each_step (step_fits functions) before steps
