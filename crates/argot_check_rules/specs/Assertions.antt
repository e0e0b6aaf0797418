-- Rule 9: an assertion is made of an interface, and its type implements it or is an interface itself.
use Rattle.std.specs.Prelude.{Bool, if◌then◌else◌, None}
use Rattle.argot_check_asking.specs.Rules.{AskBoth, Say}
use Rattle.argot_check_types.specs.Types.{Ty, interface}
use Rattle.argot_check_types.specs.Facts.{Value, Two, Fact, value, ill, type_in}
use Rattle.argot_check_rules.specs.Rows.{Row, Rule, Setting}
use Rattle.argot_check_rules.specs.Stages.{asks_under}
use Rattle.argot_check_rules.specs.Switches.{asks_case_type}

abbrev pub asserted : Bool → Value → Ty → Fact
asserted b v t = if b then value (record { of = t; constant = None; way = Two; busy = v.busy }) else ill 9

abbrev pub assert_form : Setting → Value → Ty → Ty → Rule
assert_form s v t (interface methods) = asks_case_type s t (interface methods) (λ b. Say (asserted b v t))
assert_form s v t u = Say (ill 9)

abbrev pub assert_by : Setting → Fact → Ty → Rule
assert_by s (value v) t = asks_under s v.of (assert_form s v t)
assert_by s f t = Say (ill 9)

abbrev pub assertion_rule : Setting → Row → Row → Rule
assertion_rule s x t = AskBoth x t (λ f g. assert_by s f (type_in g))
