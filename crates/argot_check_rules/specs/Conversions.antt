-- Rule 11: what is converted can be converted to the type. A constant of a type of whole numbers, texts or truth values has
-- to be represented, but for a whole number that becomes a text.
use Rattle.std.specs.Prelude.{Bool, ◌||◌, [], Option, Some, None, if◌then◌else◌}
use Rattle.argot_consts.specs.declared.constants.Const.{Const}
use Rattle.argot_check_asking.specs.Rules.{AskBoth, Say}
use Rattle.argot_check_types.specs.Types.{Ty, slice, default_type, behind_pointer, nothing}
use Rattle.argot_check_types.specs.Constants.{is_constant_form, converted}
use Rattle.argot_check_types.specs.Facts.{Value, Plain, Fact, value, no_value, ill, plain, constant_value, type_in}
use Rattle.argot_check_types.specs.Known.{Known}
use Rattle.argot_check_types.specs.Convertible.{changes_type}
use Rattle.argot_check_rules.specs.Rows.{Row, Rule, Setting}
use Rattle.argot_check_rules.specs.Stages.{asks_under, asks_behind, asks_fits, known_by, and_under}

-- a slice's elements
abbrev pub elements_of : Ty → Ty
elements_of (slice t) = t
elements_of t = nothing

-- goes on with what is under a type, under what it points to and under its elements
abbrev pub asks_parts : Setting → Ty → Known → (Known → Rule) → Rule
asks_parts s t known k =
    asks_behind s t (λ u w. asks_under s (elements_of u) (λ e.
    k (and_under t u (and_under (behind_pointer u) w (and_under (elements_of u) e known)))))

abbrev pub converted_fact : Bool → Value → Ty → Fact
converted_fact b v t = if b then value (record { of = t; constant = None; way = Plain; busy = v.busy }) else ill 11

abbrev pub asks_changes : Setting → Ty → Ty → (Bool → Rule) → Rule
asks_changes s t u k = asks_parts s t (known_by s [] []) (λ known. asks_parts s u known (λ all. k (changes_type all t u)))

-- what fits is right; all else goes by the types, where an untyped operand has its default type
abbrev pub plain_conversion : Setting → Value → Ty → Rule
plain_conversion s v t = asks_fits s (value v) t (λ b. asks_changes s (default_type v.of) t (λ c. Say (converted_fact (b || c) v t)))

abbrev pub constant_fact : Ty → Option Const → Fact
constant_fact t None = ill 11
constant_fact t (Some c) = value (constant_value t c)

abbrev pub value_conversion : Setting → Value → Option Const → Ty → Ty → Rule
value_conversion s v None t u = plain_conversion s v t
value_conversion s v (Some c) t u = if is_constant_form u then Say (constant_fact t (converted u c)) else plain_conversion s v t

-- the conversion of an operand to a type
abbrev pub convert : Setting → Fact → Ty → Rule
convert s (value v) t = asks_under s t (λ u. value_conversion s v v.constant t u)
convert s no_value t = asks_fits s no_value t (λ b. Say (if b then value (plain t) else ill 11))
convert s f t = Say (ill 11)

-- a conversion whose type can't be an expression
abbrev pub conversion_rule : Setting → Row → Row → Rule
conversion_rule s t x = AskBoth t x (λ f g. convert s g (type_in f))
