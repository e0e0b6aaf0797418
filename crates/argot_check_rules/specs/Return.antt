-- Rule 47: `return` has a value for each result, which fits it, or one call of several results has all of them; or none, where
-- there are no results or they have names.
use Rattle.std.specs.Prelude.{Bool, false, not, ◌||◌, List, [], ◌∷◌, length, Option, Some, None}
use Rattle.argot_check_asking.specs.Rules.{AskAll, Say}
use Rattle.argot_check_types.specs.Types.{Ty, types_in}
use Rattle.argot_check_types.specs.Facts.{Fact, ill, type_in}
use Rattle.argot_check_rules.specs.Rows.{Row, Rule, Setting}
use Rattle.argot_check_rules.specs.Stages.{asks_all_fit}
use Rattle.argot_check_rules.specs.Literals.{has_types, results_in}
use Rattle.argot_check_rules.specs.Calls.{paired}
use Rattle.argot_check_rules.specs.Assignments.{done_if, values_for}

-- the values against the results
abbrev pub returned : Setting → List Ty → Option (List Fact) → Rule
returned s ts None = Say (ill 47)
returned s ts (Some fs) = elim (paired fs ts) [ None ↦ Say (ill 47) | Some ps ↦ asks_all_fit s ps (λ b. Say (done_if b 47)) ]

abbrev pub return_by : Setting → Bool → List Fact → Rule
return_by s named (f ∷ []) = Say (done_if (named || not (has_types (results_in (type_in f)))) 47)
return_by s named (f ∷ g ∷ fs) = returned s (types_in (results_in (type_in f))) (values_for false (length (types_in (results_in (type_in f)))) (g ∷ fs))
return_by s named [] = Say (ill 47)

-- the signature of the function around it, whether its results have names, and the values
abbrev pub return_rule : Setting → Row → Bool → List Row → Rule
return_rule s signature named values = AskAll (signature ∷ values) (return_by s named)
