-- Operators with one operand. Rule 5: parentheses. Rule 13: `+`, `-` and `^` on whole numbers, `!` on truth values. Rule 15:
-- `*x` of a pointer, or of a type. Rule 16: `&x` of what has a place, or of a composite literal. Rule 17: a receive from a
-- channel that isn't one to send only.
use Rattle.std.specs.Prelude.{◌-◌, ◌^◌, pos, ◌-ℤ◌, Bool, true, false, ◌||◌, Option, Some, None, if◌then◌else◌}
use Rattle.argot_typed.specs.declared.shape.Dir.TheVariants.{Send}
use Rattle.std.specs.declared.result.Result.TheVariants.{Ok, Err}
use Rattle.argot_consts.specs.declared.constants.Const.{Const}
use Rattle.argot_consts.specs.declared.constants.Const.TheVariants.{Whole}
use Rattle.argot_consts.specs.declared.operators.Unary.{Unary}
use Rattle.argot_consts.specs.declared.operators.Unary.TheVariants.{Same, Negate, Not, Complement}
use Rattle.argot_consts.specs.Fold.{Folded, fold_one_of, whole_value}
use Rattle.argot_check_asking.specs.Rules.{Ask, Say}
use Rattle.argot_check_types.specs.Types.{Ty, truth, whole, pointer, channel}
use Rattle.argot_check_types.specs.Facts.{Value, Plain, Place, Two, Fact, value, kind, ill, wide, is_place}
use Rattle.argot_check_rules.specs.Rows.{Row, Rule, Setting}
use Rattle.argot_check_rules.specs.Stages.{asks_under, asks_form}
use Rattle.argot_check_rules.specs.Names.{Stands, kind_at}

-- parentheses say what is said inside
abbrev pub parens_rule : Row → Rule
parens_rule x = Ask x (λ f. Say f)

-- the operator takes operands of this form
abbrev pub takes_one : Unary → Ty → Bool
takes_one Not truth = true
takes_one Same (whole bits signed) = true
takes_one Negate (whole bits signed) = true
takes_one Complement (whole bits signed) = true
takes_one _ _ = false

-- the operator on a constant; the complement of an unsigned number is taken in its width
abbrev pub folded : Unary → Ty → Const → Folded
folded Complement (whole bits false) (Whole z) = whole_value (pos (2 ^ bits - 1) -ℤ z)
folded op form c = fold_one_of op c

abbrev pub folded_fact : Ty → Folded → Fact
folded_fact t (Ok c) = value (record { of = t; constant = Some c; way = Plain; busy = false })
folded_fact t (Err e) = wide

abbrev pub unary_value : Unary → Ty → Value → Option Const → Fact
unary_value op form v None = value (record { of = v.of; constant = None; way = Plain; busy = v.busy })
unary_value op form v (Some c) = folded_fact v.of (folded op form c)

abbrev pub unary_fact : Unary → Ty → Value → Fact
unary_fact op form v = if takes_one op form then unary_value op form v v.constant else ill 13

abbrev pub unary_by : Setting → Unary → Fact → Rule
unary_by s op (value v) = asks_form s v.of (λ form. Say (unary_fact op form v))
unary_by s op f = Say (ill 13)

abbrev pub unary_rule : Setting → Unary → Row → Rule
unary_rule s op x = Ask x (unary_by s op)

-- what is behind a pointer has a place
abbrev pub behind_fact : Value → Ty → Fact
behind_fact v (pointer t) = value (record { of = t; constant = None; way = Place; busy = v.busy })
behind_fact v u = ill 15

abbrev pub deref_by : Setting → Stands → Fact → Rule
deref_by s stands (kind t) = Say (kind_at stands 15 (kind (pointer t)))
deref_by s stands (value v) = asks_under s v.of (λ u. Say (behind_fact v u))
deref_by s stands f = Say (ill 15)

abbrev pub deref_rule : Setting → Stands → Row → Rule
deref_rule s stands x = Ask x (deref_by s stands)

-- `&x`; of a literal also without a place
abbrev pub address_fact : Bool → Fact → Fact
address_fact literal (value v) = if is_place v.way || literal then value (record { of = pointer v.of; constant = None; way = Plain; busy = v.busy }) else ill 16
address_fact literal f = ill 16

abbrev pub address_rule : Bool → Row → Rule
address_rule literal x = Ask x (λ f. Say (address_fact literal f))

-- the elements that a receive gives
abbrev pub received : Ty → Option Ty
received (channel Send t) = None
received (channel d t) = Some t
received u = None

abbrev pub receive_fact : Option Ty → Fact
receive_fact None = ill 17
receive_fact (Some t) = value (record { of = t; constant = None; way = Two; busy = true })

abbrev pub receive_by : Setting → Fact → Rule
receive_by s (value v) = asks_under s v.of (λ u. Say (receive_fact (received u)))
receive_by s f = Say (ill 17)

abbrev pub receive_rule : Setting → Row → Rule
receive_rule s x = Ask x (receive_by s)
