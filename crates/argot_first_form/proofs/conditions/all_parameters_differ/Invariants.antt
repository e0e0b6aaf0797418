use Rattle.std.proofs.Common.{◌≡◌, drop}
use Rattle.std.specs.List.{list_all}
use Rattle.argot_first_form.specs.Form.{distinct}
use Rattle.argot_first_form.proofs.conditions.all_parameters_differ.Given as goal

abbrev pub invariant-loop-function : goal.invariant-loop-function
invariant-loop-function l = list_all (λ f. distinct f.parameters) l.functions ≡ list_all (λ f. distinct f.parameters) (drop l.function-index l.functions)
