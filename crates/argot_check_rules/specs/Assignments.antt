-- Assignments and what is alike. Rule 31: a send. Rule 32: `++` and `--`. Rule 33: as many values as places, or for two one call, map's element,
-- receive or assertion; places have a place, are map's elements or `_`, and the values fit. Rule 34: one place, and as
-- the operator asks. Rule 35: the names that `:=` declares are distinct, and one at least is new.
use Rattle.std.specs.Prelude.{ℕ, Bool, true, false, not, ◌&&◌, ◌||◌, List, [], ◌∷◌, ◌++◌, length, ◌==◌, Option, Some, None, if◌then◌else◌, codes}
use Rattle.argot_typed.specs.declared.shape.Dir.TheVariants.{Receive}
use Rattle.argot_consts.specs.declared.constants.Const.{Const}
use Rattle.argot_consts.specs.declared.operators.Binary.{Binary}
use Rattle.argot_check_asking.specs.Rules.{Ask, AskBoth, AskAll, Say}
use Rattle.argot_check_types.specs.Types.{bool, Ty, channel, untyped, under_basic, is_whole, is_untyped}
use Rattle.argot_check_types.specs.Identity.{identical, same_text}
use Rattle.argot_check_types.specs.Constants.{represents, is_zero}
use Rattle.argot_check_types.specs.Facts.{Value, Fact, value, results, done, ill, plain, is_assigned, is_place, gives_two}
use Rattle.argot_check_rules.specs.Rows.{Row, Rule, Setting}
use Rattle.argot_check_rules.specs.Stages.{asks_under, asks_form, asks_fits}
use Rattle.argot_check_rules.specs.Binary.{takes_form, is_shift, divides, is_shifted}
use Rattle.argot_check_rules.specs.Calls.{plain_values, are_operands}
use Rattle.argot_check_rules.specs.Structs.{are_distinct}

-- all right, or ill by the rule
abbrev pub done_if : Bool → ℕ → Fact
done_if b rule = if b then done else ill rule

-- Values ------------------------------------------------------------------------------------------------------------

-- the results of a call where they are two or more, and as many as that
abbrev pub results_for : ℕ → List Ty → Option (List Fact)
results_for n (t ∷ u ∷ ts) = if length (t ∷ u ∷ ts) == n then Some (plain_values (t ∷ u ∷ ts)) else None
results_for n ts = None

-- a value and whether it is there
abbrev pub with_second : Value → Option (List Fact)
with_second v = if gives_two v.way then Some (value (plain v.of) ∷ value (plain (untyped bool)) ∷ []) else None

-- one expression for several places; where it may, one gives two values
abbrev pub one_for_two : Bool → ℕ → Value → Option (List Fact)
one_for_two two n v = if two && n == 2 then with_second v else None

abbrev pub one_for : Bool → ℕ → Fact → Option (List Fact)
one_for two n (results ts) = results_for n ts
one_for two n (value v) = one_for_two two n v
one_for two n f = None

abbrev pub as_many : ℕ → List Fact → Option (List Fact)
as_many n fs = if length fs == n && are_operands fs then Some fs else None

-- the values for n places, if there are as many: one each, or those of one expression
abbrev pub values_for : Bool → ℕ → List Fact → Option (List Fact)
values_for two n (f ∷ []) = if n == 1 then as_many n (f ∷ []) else one_for two n f
values_for two n fs = as_many n fs

-- an untyped constant has to be represented by its default type
abbrev pub represents_default : Ty → Option Const → Bool
represents_default (untyped b) (Some c) = represents (under_basic b) c
represents_default t c = true

-- it can be the value of a variable whose type isn't written, and of `_`: it is no `nil`
abbrev pub is_free : Fact → Bool
is_free (value v) = represents_default v.of v.constant
is_free f = false

abbrev pub are_free : List Fact → Bool
are_free [] = true
are_free (f ∷ fs) = is_free f && are_free fs

-- Sends, steps ------------------------------------------------------------------------------------------------------

abbrev pub send_to : Setting → Fact → Ty → Rule
send_to s f (channel Receive of) = Say (ill 31)
send_to s f (channel d of) = asks_fits s f of (λ b. Say (done_if b 31))
send_to s f u = Say (ill 31)

abbrev pub send_by : Setting → Fact → Fact → Rule
send_by s (value v) f = asks_under s v.of (send_to s f)
send_by s g f = Say (ill 31)

abbrev pub send_rule : Setting → Row → Row → Rule
send_rule s channel_at x = AskBoth channel_at x (send_by s)

abbrev pub step_by : Setting → Fact → Rule
step_by s (value v) = asks_form s v.of (λ form. Say (done_if (is_assigned v.way && is_whole form) 32))
step_by s f = Say (ill 32)

abbrev pub step_rule : Setting → Row → Rule
step_rule s x = Ask x (step_by s)

-- Assignments -------------------------------------------------------------------------------------------------------

-- a place on the left: `_`, or an expression
pub data Target : Type 0 where
  Blank : Target
  Put : Row → Target

abbrev pub target_rows : List Target → List Row
target_rows [] = []
target_rows (Blank ∷ ts) = target_rows ts
target_rows (Put row ∷ ts) = row ∷ target_rows ts

-- the answers behind those of the places
abbrev pub behind_targets : List Target → List Fact → List Fact
behind_targets [] fs = fs
behind_targets (Blank ∷ ts) fs = behind_targets ts fs
behind_targets (Put row ∷ ts) (f ∷ fs) = behind_targets ts fs
behind_targets (Put row ∷ ts) [] = []

abbrev pub asks_stored : Setting → Fact → Fact → (Bool → Rule) → Rule
asks_stored s (value place) f k = asks_fits s f place.of (λ b. k (b && is_assigned place.way))
asks_stored s g f k = k false

-- goes on with whether the values can be put into the places, by the answers of these
abbrev pub asks_all_stored : Setting → List Target → List Fact → List Fact → (Bool → Rule) → Rule
asks_all_stored s (Blank ∷ ts) places (f ∷ fs) k = asks_all_stored s ts places fs (λ b. k (is_free f && b))
asks_all_stored s (Put row ∷ ts) (place ∷ places) (f ∷ fs) k = asks_stored s place f (λ b. asks_all_stored s ts places fs (λ c. k (b && c)))
asks_all_stored s ts places fs k = k true

abbrev pub assign_values : Setting → ℕ → List Target → List Fact → Option (List Fact) → Rule
assign_values s rule ts places None = Say (ill rule)
assign_values s rule ts places (Some fs) = asks_all_stored s ts places fs (λ b. Say (done_if b rule))

abbrev pub assign_by : Setting → ℕ → List Target → List Fact → Rule
assign_by s rule ts fs = assign_values s rule ts fs (values_for true (length ts) (behind_targets ts fs))

-- the places and the values
abbrev pub assign_rule : Setting → List Target → List Row → Rule
assign_rule s ts values = AskAll (target_rows ts ++ values) (assign_by s 33 ts)

-- an assignment with an operator: an untyped value fits the place's type, any other has it
abbrev pub asks_operand : Setting → Value → Value → (Bool → Rule) → Rule
asks_operand s place v k = if is_untyped v.of then asks_fits s (value v) place.of k else k (identical place.of v.of)

abbrev pub op_assign_values : Setting → Binary → Value → Value → Rule
op_assign_values s op place v =
    asks_form s place.of (λ form. asks_form s v.of (λ other.
    if is_shift op then Say (done_if (is_assigned place.way && is_shifted form other v.constant) 34)
    else asks_operand s place v (λ b. Say (done_if (b && (is_assigned place.way && (takes_form op form && not (divides op && is_zero v.constant)))) 34))))

abbrev pub op_assign_by : Setting → Binary → List Fact → Rule
op_assign_by s op (value place ∷ value v ∷ []) = op_assign_values s op place v
op_assign_by s op fs = Say (ill 34)

-- there is one place and one value
abbrev pub op_assign_one : Setting → Binary → List Row → List Row → List Fact → Rule
op_assign_one s op (p ∷ []) (v ∷ []) fs = op_assign_by s op fs
op_assign_one s op ps vs fs = Say (ill 34)

abbrev pub op_assign_rule : Setting → Binary → List Row → List Row → Rule
op_assign_rule s op ps vs = AskAll (ps ++ vs) (op_assign_one s op ps vs)

-- Declarations by `:=` ----------------------------------------------------------------------------------------------

-- a name on the left: `_` or one that is declared, or one that its block has already, with the row of its declaration
pub data Left : Type 0 where
  Free : (name : List ℕ) → Left
  Old : (name : List ℕ) → Row → Left

abbrev pub left_name : Left → List ℕ
left_name (Free name) = name
left_name (Old name row) = name

abbrev pub left_names : List Left → List (List ℕ)
left_names [] = []
left_names (l ∷ ls) = left_name l ∷ left_names ls

abbrev pub old_rows : List Left → List Row
old_rows [] = []
old_rows (Free name ∷ ls) = old_rows ls
old_rows (Old name row ∷ ls) = row ∷ old_rows ls

abbrev pub is_new : Left → Bool
is_new (Free name) = not (same_text name (codes "_"))
is_new (Old name row) = false

abbrev pub is_one_new : List Left → Bool
is_one_new [] = false
is_one_new (l ∷ ls) = is_new l || is_one_new ls

-- an old name has to be a variable
abbrev pub asks_renewed : Setting → Fact → Fact → (Bool → Rule) → Rule
asks_renewed s (value place) f k = asks_fits s f place.of (λ b. k (b && is_place place.way))
asks_renewed s g f k = k false

abbrev pub asks_all_defined : Setting → List Left → List Fact → List Fact → (Bool → Rule) → Rule
asks_all_defined s (Free name ∷ ls) olds (f ∷ fs) k = asks_all_defined s ls olds fs (λ b. k (is_free f && b))
asks_all_defined s (Old name row ∷ ls) (old ∷ olds) (f ∷ fs) k = asks_renewed s old f (λ b. asks_all_defined s ls olds fs (λ c. k (b && c)))
asks_all_defined s ls olds fs k = k true

abbrev pub define_values : Setting → List Left → List Fact → Option (List Fact) → Rule
define_values s ls olds None = Say (ill 35)
define_values s ls olds (Some fs) =
    asks_all_defined s ls olds fs (λ b. Say (done_if (b && (are_distinct (left_names ls) && is_one_new ls)) 35))

abbrev pub define_by : Setting → List Left → ℕ → List Fact → List Fact → Rule
define_by s ls n values olds = define_values s ls olds (values_for true n values)

-- the names and the values: first the answers of the old names, then those of the values
abbrev pub answers_of : List Row → List Fact → List Fact
answers_of (row ∷ rows) (f ∷ fs) = f ∷ answers_of rows fs
answers_of _ _ = []

abbrev pub answers_behind : List Row → List Fact → List Fact
answers_behind (row ∷ rows) (f ∷ fs) = answers_behind rows fs
answers_behind _ fs = fs

abbrev pub define_rule : Setting → List Left → List Row → Rule
define_rule s ls values =
    AskAll (values ++ old_rows ls) (λ fs. define_by s ls (length ls) (answers_of values fs) (answers_behind values fs))
