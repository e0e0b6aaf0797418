-- Rule 40: `==` compares each case of a `switch` with its value, or with `true`; constant whole cases are distinct, and one
-- `default` is there at most. Rule 41: a type switch is over an interface; each case is `nil`, an interface or a type that implements
-- it, and none stands twice.
use Rattle.std.specs.Prelude.{ℕ, Bool, true, false, not, ◌&&◌, ◌||◌, List, [], ◌∷◌, Option, Some, None, nat_le, ℤ, ◌++◌}
use Rattle.std.specs.Ordering.{int_eq}
use Rattle.argot_consts.specs.declared.constants.Const.{Const}
use Rattle.argot_consts.specs.declared.constants.Const.TheVariants.{Whole, Truth}
use Rattle.argot_consts.specs.declared.operators.Binary.TheVariants.{Equal}
use Rattle.argot_check_asking.specs.Rules.{Ask, AskAll, Say}
use Rattle.argot_check_types.specs.Types.{bool, Ty, interface, untyped, nil, default_type, is_whole, is_interface}
use Rattle.argot_check_types.specs.Identity.{identical}
use Rattle.argot_check_types.specs.Facts.{Value, Fact, value, no_value, kind, lost, ill, constant_value, variable}
use Rattle.argot_check_types.specs.Members.{implements}
use Rattle.argot_check_rules.specs.Rows.{Row, Rule, Setting}
use Rattle.argot_check_rules.specs.Stages.{asks_under, asks_form, asks_implements}
use Rattle.argot_check_rules.specs.Binary.{asks_compares}
use Rattle.argot_check_rules.specs.Assignments.{done_if}

-- a constant whole case by its type and number
pub record Case : Type 0 where
  pub of : Ty
  pub number : ℤ

abbrev pub is_same_case : Case → Case → Bool
is_same_case a b = identical a.of b.of && int_eq a.number b.number

abbrev pub is_case_among : Case → List Case → Bool
is_case_among c [] = false
is_case_among c (d ∷ ds) = is_same_case c d || is_case_among c ds

abbrev pub are_distinct_cases : List Case → Bool
are_distinct_cases [] = true
are_distinct_cases (c ∷ cs) = not (is_case_among c cs) && are_distinct_cases cs

-- an untyped case counts with the value's type where that is one of whole numbers, else with its default type; an untyped value counts
-- with its own default type there
abbrev pub case_type : Ty → Bool → Ty → Ty
case_type (untyped b) true t = default_type t
case_type (untyped b) false t = default_type (untyped b)
case_type u w t = u

-- the whole constant of a case, beside a value of this type, which is one of whole numbers or not
abbrev pub whole_case : Option Const → Ty → List Case
whole_case (Some (Whole z)) t = record { of = t; number = z } ∷ []
whole_case c t = []

abbrev pub case_in : Fact → Bool → Ty → List Case
case_in (value v) w t = whole_case v.constant (case_type v.of w t)
case_in f w t = []

abbrev pub whole_cases : List Fact → Bool → Ty → List Case
whole_cases [] w t = []
whole_cases (f ∷ fs) w t = case_in f w t ++ whole_cases fs w t

-- goes on with whether each case can be compared with the value
abbrev pub asks_cases : Setting → Value → List Fact → (Bool → Rule) → Rule
asks_cases s v [] k = k true
asks_cases s v (f ∷ fs) k = asks_compares s Equal f (value v) (λ b. asks_cases s v fs (λ c. k (b && c)))

abbrev pub switch_value : Setting → ℕ → Value → List Fact → Rule
switch_value s defaults v fs =
    asks_form s v.of (λ form. asks_cases s v fs (λ b. Say (done_if (b && (nat_le defaults 1 && are_distinct_cases (whole_cases fs (is_whole form) v.of))) 40)))

abbrev pub switch_by : Setting → ℕ → List Fact → Rule
switch_by s defaults (value v ∷ fs) = switch_value s defaults v fs
switch_by s defaults fs = Say (ill 40)

-- the value, where one is written, all cases, and the number of `default`s
abbrev pub switch_rule : Setting → Option Row → List Row → ℕ → Rule
switch_rule s (Some x) cases defaults = AskAll (x ∷ cases) (switch_by s defaults)
switch_rule s None cases defaults = AskAll cases (switch_value s defaults (constant_value (untyped bool) Truth))

-- Type switches -----------------------------------------------------------------------------------------------------

abbrev pub implements_all : Setting → Ty → Ty → (Bool → Rule) → Rule
implements_all s t (interface methods) k = asks_implements s t (interface methods) (λ known. k (implements known t methods))
implements_all s t u k = k false

-- goes on with whether a type is an interface, or implements that with this form
abbrev pub asks_case_type : Setting → Ty → Ty → (Bool → Rule) → Rule
asks_case_type s t u k = asks_under s t (λ w. implements_all s t u (λ b. k (is_interface w || b)))

abbrev pub asks_entry : Setting → Ty → Fact → (Bool → Rule) → Rule
asks_entry s u (kind t) k = asks_case_type s t u k
asks_entry s u no_value k = k true
asks_entry s u f k = k false

abbrev pub asks_entries : Setting → Ty → List Fact → (Bool → Rule) → Rule
asks_entries s u [] k = k true
asks_entries s u (f ∷ fs) k = asks_entry s u f (λ b. asks_entries s u fs (λ c. k (b && c)))

-- `nil` counts as a type of its own
abbrev pub entry_type : Fact → Ty
entry_type (kind t) = t
entry_type f = nil

abbrev pub is_type_among : Ty → List Fact → Bool
is_type_among t [] = false
is_type_among t (f ∷ fs) = identical t (entry_type f) || is_type_among t fs

abbrev pub are_distinct_types : List Fact → Bool
are_distinct_types [] = true
are_distinct_types (f ∷ fs) = not (is_type_among (entry_type f) fs) && are_distinct_types fs

abbrev pub type_switch_form : Setting → ℕ → List Fact → Ty → Rule
type_switch_form s defaults fs (interface methods) =
    asks_entries s (interface methods) fs (λ b. Say (done_if (b && (nat_le defaults 1 && are_distinct_types fs)) 41))
type_switch_form s defaults fs u = Say (ill 41)

abbrev pub type_switch_by : Setting → ℕ → List Fact → Rule
type_switch_by s defaults (value v ∷ fs) = asks_under s v.of (type_switch_form s defaults fs)
type_switch_by s defaults fs = Say (ill 41)

abbrev pub type_switch_rule : Setting → Row → List Row → ℕ → Rule
type_switch_rule s x entries defaults = AskAll (x ∷ entries) (type_switch_by s defaults)

-- the variable of a clause: of the type of its one entry, else of that of the switch's operand
abbrev pub operand_fact : Fact → Fact
operand_fact (value v) = value (variable v.of)
operand_fact f = lost

abbrev pub clause_by : Row → Fact → Rule
clause_by operand (kind t) = Say (value (variable t))
clause_by operand no_value = Ask operand (λ f. Say (operand_fact f))
clause_by operand f = Say lost

abbrev pub clause_rule : Row → List Row → Rule
clause_rule operand (entry ∷ []) = Ask entry (clause_by operand)
clause_rule operand entries = Ask operand (λ f. Say (operand_fact f))
