-- Declarations. Rule 36: the values of variables are as many as the names, or those of one call; they fit the type, or have
-- one where none is written. Rule 37: constants are constant expressions, as many as the names, and fit the type. Rule
-- 38: a type; that it doesn't hold itself is looked at when all is typed. Rule 53: the names of a function's parameters
-- and results other than `_` are distinct, a body is terminating where there are results, and `main` and `init` have
-- neither parameters nor results. Rule 54: a method's base type is declared in its package, and is no pointer and no
-- interface; its name is no field's of it and no other method's.
use Rattle.std.specs.Prelude.{ℕ, zero, suc, Bool, true, false, not, ◌&&◌, ◌||◌, List, [], ◌∷◌, ◌++◌, length, ◌==◌, Option, Some, None, if◌then◌else◌, codes, option_to_list}
use Rattle.argot_check_asking.specs.Rules.{Ask, AskBoth, AskAll, Say}
use Rattle.argot_check_types.specs.Types.{Ty, named, pointer, slice, structure, function, interface, field, bool_type, default_type}
use Rattle.argot_check_types.specs.Identity.{same_text}
use Rattle.argot_check_types.specs.Constants.{is_constant_form}
use Rattle.argot_check_types.specs.Facts.{Value, Fact, value, results, under, comparable, done, lost, ill, plain, variable, constant_value, type_in, gives_two}
use Rattle.argot_check_types.specs.Members.{is_seen_by}
use Rattle.argot_check_rules.specs.Rows.{Row, Rule, Setting}
use Rattle.argot_check_rules.specs.Stages.{asks_under, asks_fits, asks_all_fit, asks_comparable, under_in_fact}
use Rattle.argot_check_rules.specs.Literals.{has_types, results_in}
use Rattle.argot_check_rules.specs.Calls.{all_paired}
use Rattle.argot_check_rules.specs.Assignments.{done_if, values_for, are_free, answers_of, answers_behind}

-- Names that are declared -------------------------------------------------------------------------------------------

-- a variable whose type is written; behind `...` it has the slice type
abbrev pub written_rule : Bool → Row → Rule
written_rule variadic t = Ask t (λ f. Say (value (variable (if variadic then slice (type_in f) else type_in f))))

-- one that has the type of its value
abbrev pub given_fact : Fact → Fact
given_fact (value v) = value (variable (default_type v.of))
given_fact f = lost

abbrev pub given_rule : Row → Rule
given_rule x = Ask x (λ f. Say (given_fact f))

-- one of several that one expression gives: result number j of n, or a value and whether it is there
abbrev pub result_at : ℕ → List Ty → Option Ty
result_at n [] = None
result_at zero (t ∷ ts) = Some t
result_at (suc n) (t ∷ ts) = result_at n ts

abbrev pub variable_or_lost : Option Ty → Fact
variable_or_lost None = lost
variable_or_lost (Some t) = value (variable t)

abbrev pub second_fact : ℕ → Value → Fact
second_fact zero v = value (variable v.of)
second_fact (suc j) v = value (variable bool_type)

abbrev pub shared_fact : (j n : ℕ) → Fact → Fact
shared_fact j n (results ts) = if length ts == n then variable_or_lost (result_at j ts) else lost
shared_fact j n (value v) = if n == 2 && gives_two v.way then second_fact j v else lost
shared_fact j n f = lost

abbrev pub shared_rule : (j n : ℕ) → Row → Rule
shared_rule j n x = Ask x (λ f. Say (shared_fact j n f))

-- the name of a constant: its item, and its type where one is written
abbrev pub untyped_constant : Fact → Fact
untyped_constant (value v) = elim v.constant [ None ↦ lost | Some c ↦ value (constant_value v.of c) ]
untyped_constant f = lost

abbrev pub typed_constant : Bool → Fact → Ty → Fact
typed_constant b (value v) t = elim v.constant [ None ↦ lost | Some c ↦ if b then value (constant_value t c) else lost ]
typed_constant b f t = lost

abbrev pub constant_by : Setting → List Fact → Rule
constant_by s (f ∷ []) = Say (untyped_constant f)
constant_by s (f ∷ g ∷ fs) = asks_under s (type_in g) (λ u. asks_fits s f (type_in g) (λ b. Say (typed_constant (b && is_constant_form u) f (type_in g))))
constant_by s [] = Say lost

abbrev pub constant_rule : Setting → Row → Option Row → Rule
constant_rule s item t = AskAll (item ∷ option_to_list t) (constant_by s)

-- the name of a function or of a method
abbrev pub function_name_rule : Row → Rule
function_name_rule signature = Ask signature (λ f. Say (value (plain (type_in f))))

-- Rule 36 -----------------------------------------------------------------------------------------------------------

abbrev pub variables_by : Setting → Option (List Fact) → Option Ty → Rule
variables_by s None t = Say (ill 36)
variables_by s (Some fs) None = Say (done_if (are_free fs) 36)
variables_by s (Some fs) (Some t) = asks_all_fit s (all_paired fs t) (λ b. Say (done_if b 36))

abbrev pub written_type : List Fact → Option Ty
written_type [] = None
written_type (f ∷ fs) = Some (type_in f)

abbrev pub var_values : Setting → ℕ → List Row → List Fact → Rule
var_values s n [] fs = Say done
var_values s n values fs = variables_by s (values_for true n (answers_of values fs)) (written_type (answers_behind values fs))

-- so many names, the values if there are any, and the type if one is written
abbrev pub var_rule : Setting → ℕ → List Row → Option Row → Rule
var_rule s n values t = AskAll (values ++ option_to_list t) (var_values s n values)

-- Rule 37 -----------------------------------------------------------------------------------------------------------

abbrev pub is_constant : Fact → Bool
is_constant (value v) = elim v.constant [ None ↦ false | Some c ↦ true ]
is_constant f = false

abbrev pub are_constants : List Fact → Bool
are_constants [] = true
are_constants (f ∷ fs) = is_constant f && are_constants fs

abbrev pub constants_by : Setting → Bool → List Fact → List Fact → Rule
constants_by s b fs [] = Say (done_if (b && are_constants fs) 37)
constants_by s b fs (t ∷ ts) =
    asks_under s (type_in t) (λ u. asks_all_fit s (all_paired fs (type_in t)) (λ c. Say (done_if (b && (are_constants fs && (is_constant_form u && c))) 37)))

-- so many names, the items of the list, which may be that of an earlier specification, and its type if one is written
abbrev pub const_rule : Setting → ℕ → List Row → Option Row → Rule
const_rule s n items t =
    AskAll (items ++ option_to_list t) (λ fs. constants_by s (length items == n) (answers_of items fs) (answers_behind items fs))

-- no specification before it in its group has a list
abbrev pub no_list_rule : Rule
no_list_rule = Say (ill 37)

-- Rule 38 -----------------------------------------------------------------------------------------------------------

-- the type under the declared one is that under its type
abbrev pub type_rule : Setting → Row → Rule
type_rule s t = Ask t (λ f. asks_under s (type_in f) (λ u. Say (under u)))

-- with `=` the name stands for the type
abbrev pub alias_rule : Row → Rule
alias_rule t = Ask t (λ f. Say f)

-- whether values of a declared type can be compared: by what is under it
abbrev pub comparable_rule : Setting → Row → Rule
comparable_rule s spec = Ask spec (λ f. asks_comparable s (under_in_fact f) (λ b. Say (comparable b)))

-- Rules 53 and 54 ---------------------------------------------------------------------------------------------------

abbrev pub has_no_parts : Ty → Bool
has_no_parts (function ps rs variadic) = not (has_types ps) && not (has_types rs)
has_no_parts t = true

-- a function's body: missing, terminating, or neither
pub data Body : Type 0 where
  NoBody : Body
  Ending : Body
  Open : Body

-- a body that doesn't end has no results to give
abbrev pub is_body_right : Body → Ty → Bool
is_body_right Open t = not (has_types (results_in t))
is_body_right body t = true

-- whether the names are distinct, and whether the function is `main` or `init`
abbrev pub func_rule : Row → Bool → Body → Bool → Rule
func_rule signature distinct body first =
    Ask signature (λ f. Say (done_if (distinct && (is_body_right body (type_in f) && (not first || has_no_parts (type_in f)))) 53))

abbrev pub is_base_form : Ty → Bool
is_base_form (pointer t) = false
is_base_form (interface t) = false
is_base_form u = true

-- a field of that name, as the package of the method sees it
abbrev pub has_field : List ℕ → Option ℕ → Ty → Bool
has_field name looks (structure fields) = has_field name looks fields
has_field name looks (field other home tag embedded of rest) = same_text name other && is_seen_by home looks || has_field name looks rest
has_field name looks u = false

-- a method's name, and whether no other method of the type has it
pub record Named : Type 0 where
  pub name : List ℕ
  pub alone : Bool

abbrev pub is_name_right : Named → Option ℕ → Ty → Bool
is_name_right n looks u = same_text n.name (codes "_") || n.alone && not (has_field n.name looks u)

abbrev pub method_by : Setting → Bool → Body → Named → Option ℕ → Ty → Rule
method_by s distinct body n None t = Say (ill 54)
method_by s distinct body n (Some d) t =
    asks_under s (named d) (λ u. Say (done_if (distinct && (is_body_right body t && (is_base_form u && is_name_right n s.home u))) 54))

-- the base is there where it is a type of the package that is declared outside functions
abbrev pub method_rule : Setting → Row → Row → Bool → Body → Named → Option ℕ → Rule
method_rule s signature receiver distinct body n base = AskBoth signature receiver (λ f g. method_by s distinct body n base (type_in f))
