use Rattle.std.proofs.Common.{◌≡◌, drop}
use Rattle.std.specs.Prelude.{not}
use Rattle.std.specs.List.{list_all}
use Rattle.argot_first_form.specs.declared.functions.Function.{Function}
use Rattle.argot_first_form.specs.Form.{among, names_of}
use Rattle.argot_first_form.proofs.conditions.all_parameters_apart.Given as goal

abbrev pub invariant-loop-function : goal.invariant-loop-function
invariant-loop-function l = list_all (λ (f : Function). list_all (λ p. not (among (names_of l.scope.functions.now) p)) f.parameters) l.scope.functions.now ≡ list_all (λ (f : Function). list_all (λ p. not (among (names_of l.scope.functions.now) p)) f.parameters) (drop l.function-index l.scope.functions.now)
