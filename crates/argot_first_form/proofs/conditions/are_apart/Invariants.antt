use Rattle.std.proofs.Common.{◌≡◌, drop}
use Rattle.std.specs.Prelude.{not}
use Rattle.std.specs.List.{list_all}
use Rattle.argot_first_form.specs.Form.{among, names_of}
use Rattle.argot_first_form.proofs.conditions.are_apart.Given as goal

abbrev pub invariant-loop-name : goal.invariant-loop-name
invariant-loop-name l = list_all (λ p. not (among (names_of l.scope.functions.now) p)) l.names ≡ list_all (λ p. not (among (names_of l.scope.functions.now) p)) (drop l.name-index l.names)
