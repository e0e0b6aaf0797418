-- Operators with two operands. Rule 14: both have one type, where an untyped one takes the other's; in a comparison one
-- side fits the other's type; `==` and `!=` take what can be compared, and `nil`; the orders take whole numbers and texts, `+` these too,
-- `&&` and `||` truth values, the others whole numbers. A shift takes whole numbers, and its count is no constant below
-- zero. A constant divisor isn't zero. Too wide where both are constants and the value leaves 128 bits, or a text's
-- length 64.
use Rattle.std.specs.Prelude.{Bool, true, false, not, ◌&&◌, ◌||◌, Option, Some, None, if◌then◌else◌}
use Rattle.std.specs.declared.result.Result.TheVariants.{Ok, Err}
use Rattle.argot_consts.specs.declared.constants.Const.{Const}
use Rattle.argot_consts.specs.declared.constants.ConstFault.TheVariants.{TooWide}
use Rattle.argot_consts.specs.declared.operators.Binary.{Binary}
use Rattle.argot_consts.specs.declared.operators.Binary.TheVariants.{Divide, Remainder, ShiftLeft, ShiftRight, Plus, Equal, NotEqual, Less, AtMost, Greater, AtLeast, Both, Either}
use Rattle.argot_consts.specs.Fold.{Folded, fold_of}
use Rattle.argot_check_asking.specs.Rules.{AskBoth, Say}
use Rattle.argot_check_types.specs.Types.{Basic, bool, string, int32, Ty, interface, untyped, default_type, is_whole, is_text, is_truth, is_untyped}
use Rattle.argot_check_types.specs.Identity.{identical}
use Rattle.argot_check_types.specs.Constants.{represents, is_negative, is_zero}
use Rattle.argot_check_types.specs.Facts.{Value, Plain, Fact, value, no_value, ill, wide, plain, is_busy, constant_in}
use Rattle.argot_check_types.specs.Comparable.{is_ordered_form}
use Rattle.argot_check_rules.specs.Rows.{Row, Rule, Setting}
use Rattle.argot_check_rules.specs.Stages.{asks_under, asks_form, asks_fits, asks_comparable, form_by}

-- whether two untyped values are of one kind: whole numbers, texts, truth values
abbrev pub is_one_kind : Basic → Basic → Bool
is_one_kind bool bool = true
is_one_kind bool _ = false
is_one_kind string string = true
is_one_kind string _ = false
is_one_kind _ bool = false
is_one_kind _ string = false
is_one_kind _ _ = true

-- of two kinds of whole numbers that of characters wins, else the first
abbrev pub joined : Basic → Basic → Basic
joined a int32 = int32
joined a b = a

-- the type that two operands have, where they can have one
abbrev pub common : Ty → Ty → Option Ty
common (untyped a) (untyped b) = if is_one_kind a b then Some (untyped (joined a b)) else None
common (untyped a) u = Some u
common t (untyped b) = Some t
common t u = if identical t u then Some t else None

-- what an operator asks of the type of both: orders, sums, truth values, whole numbers
abbrev pub takes_form : Binary → Ty → Bool
takes_form Plus form = is_whole form || is_text form
takes_form Both form = is_truth form
takes_form Either form = is_truth form
takes_form op form = is_whole form

abbrev pub is_equality : Binary → Bool
is_equality Equal = true
is_equality NotEqual = true
is_equality _ = false

abbrev pub is_order : Binary → Bool
is_order Less = true
is_order AtMost = true
is_order Greater = true
is_order AtLeast = true
is_order _ = false

abbrev pub is_shift : Binary → Bool
is_shift ShiftLeft = true
is_shift ShiftRight = true
is_shift _ = false

abbrev pub divides : Binary → Bool
divides Divide = true
divides Remainder = true
divides _ = false

-- Comparisons -------------------------------------------------------------------------------------------------------

-- an untyped operand beside an interface has its default type, which has to represent it if it is a constant
abbrev pub is_represented : Ty → Option Const → Bool
is_represented form None = true
is_represented form (Some c) = represents form c

-- types whose values `==` and `!=` compare, and forms that are ordered
abbrev pub asks_comparison : Setting → Binary → Ty → Ty → (Bool → Rule) → Rule
asks_comparison s op t u k =
    if is_equality op then asks_comparable s t (λ b. asks_comparable s u (λ c. k (b && c)))
    else asks_form s t (λ form. asks_form s u (λ other. k (is_ordered_form form && is_ordered_form other)))

-- both have a type: one fits the other's
abbrev pub asks_typed : Setting → Binary → Value → Value → (Bool → Rule) → Rule
asks_typed s op v w k =
    asks_fits s (value v) w.of (λ b. asks_fits s (value w) v.of (λ c. asks_comparison s op v.of w.of (λ d. k ((b || c) && d))))

-- the first is untyped, the second has a type with this under it
abbrev pub asks_untyped_by : Setting → Binary → Value → Value → Ty → (Bool → Rule) → Rule
asks_untyped_by s op v w (interface methods) k = asks_typed s op (plain (default_type v.of)) w (λ b. k (b && is_represented (form_by v.of) v.constant))
asks_untyped_by s op v w u k = asks_fits s (value v) w.of (λ b. asks_comparison s op v.of w.of (λ c. k (b && c)))

abbrev pub asks_untyped : Setting → Binary → Value → Value → (Bool → Rule) → Rule
asks_untyped s op v w k = asks_under s w.of (λ u. asks_untyped_by s op v w u k)

abbrev pub asks_values : Setting → Binary → Value → Value → Ty → Ty → (Bool → Rule) → Rule
asks_values s op v w (untyped a) (untyped b) k = asks_comparison s op v.of w.of (λ c. k (is_one_kind a b && c))
asks_values s op v w (untyped a) u k = asks_untyped s op v w k
asks_values s op v w t (untyped b) k = asks_untyped s op w v k
asks_values s op v w t u k = asks_typed s op v w k

-- `nil` beside a value that has a type
abbrev pub asks_nil : Setting → Binary → Value → (Bool → Rule) → Rule
asks_nil s op v k = asks_fits s no_value v.of (λ b. k (b && (is_equality op && not (is_untyped v.of))))

-- goes on with whether the operator compares the two
abbrev pub asks_compares : Setting → Binary → Fact → Fact → (Bool → Rule) → Rule
asks_compares s op (value v) (value w) k = asks_values s op v w v.of w.of k
asks_compares s op (value v) no_value k = asks_nil s op v k
asks_compares s op no_value (value w) k = asks_nil s op w k
asks_compares s op f g k = k false

-- All operators -----------------------------------------------------------------------------------------------------

-- what an operator gives on two constants, if both are
abbrev pub both_folded : Binary → Option Const → Option Const → Option Folded
both_folded op (Some a) (Some b) = Some (fold_of op a b)
both_folded op _ _ = None

abbrev pub is_too_wide : Option Folded → Bool
is_too_wide (Some (Err TooWide)) = true
is_too_wide _ = false

abbrev pub constant_of : Option Folded → Option Const
constant_of (Some (Ok c)) = Some c
constant_of _ = None

abbrev pub binary_value : Ty → Option Const → Value → Value → Fact
binary_value t c v w = value (record { of = t; constant = c; way = Plain; busy = v.busy || w.busy })

-- a comparison gives an untyped truth value
abbrev pub compared : Bool → Option Folded → Fact → Fact → Fact
compared b o f g = if b then value (record { of = untyped bool; constant = constant_of o; way = Plain; busy = is_busy f || is_busy g }) else ill 14

-- the shift of a value by a count
abbrev pub is_shifted : Ty → Ty → Option Const → Bool
is_shifted form count c = is_whole form && (is_whole count && not (is_negative c))

abbrev pub shift_rule : Setting → Option Folded → Value → Value → Rule
shift_rule s o v w = asks_form s v.of (λ form. asks_form s w.of (λ count. Say (if is_shifted form count w.constant then binary_value v.of (constant_of o) v w else ill 14)))

-- all other operators, by the type of both
abbrev pub operate_by : Setting → Binary → Option Folded → Value → Value → Option Ty → Rule
operate_by s op o v w None = Say (ill 14)
operate_by s op o v w (Some t) =
    asks_fits s (value v) t (λ b. asks_fits s (value w) t (λ c. asks_form s t (λ form.
    Say (if (is_untyped t || b && c) && (takes_form op form && not (divides op && is_zero w.constant)) then binary_value t (constant_of o) v w else ill 14))))

abbrev pub operate : Setting → Binary → Option Folded → Fact → Fact → Rule
operate s op o (value v) (value w) = if is_shift op then shift_rule s o v w else operate_by s op o v w (common v.of w.of)
operate s op o f g = Say (ill 14)

abbrev pub binary_by : Setting → Binary → Fact → Fact → Rule
binary_by s op f g =
    let o = both_folded op (constant_in f) (constant_in g) in
    if is_too_wide o then Say wide
    else if is_equality op || is_order op then asks_compares s op f g (λ b. Say (compared b o f g))
    else operate s op o f g

abbrev pub binary_rule : Setting → Binary → Row → Row → Rule
binary_rule s op x y = AskBoth x y (binary_by s op)
