-- Statements. Rule 30: an expression that stands alone is a call or a receive; of built-in functions only `clear close copy
-- delete panic print println recover`. Rules 39 and 42: conditions are truth values, and what follows a loop's turn is no `:=`.
-- Rule 44: a `select` has one `default`, and its clauses send or receive. Rules 45 and 46: `go` and `defer` stand before a
-- call, as rule 30 has it, without parentheses. Rule 52: a block, and what has no condition.
use Rattle.std.specs.Prelude.{ℕ, Bool, true, false, not, ◌&&◌, List, Option, Some, None, nat_le}
use Rattle.argot_check_asking.specs.Rules.{Ask, AskMaybe, AskAll, Say}
use Rattle.argot_check_types.specs.Types.{is_truth}
use Rattle.argot_check_types.specs.Facts.{BuiltIn, Append, Cap, Len, Make, Max, Min, New, Fact, value, kind, built_in, done, ill}
use Rattle.argot_check_rules.specs.Rows.{Row, Rule, Setting}
use Rattle.argot_check_rules.specs.Stages.{asks_form}
use Rattle.argot_check_rules.specs.Assignments.{done_if}

-- it may be called without a use of its result
abbrev pub stands_alone : BuiltIn → Bool
stands_alone Append = false
stands_alone Cap = false
stands_alone Len = false
stands_alone Make = false
stands_alone Max = false
stands_alone Min = false
stands_alone New = false
stands_alone b = true

-- what is called is a value or such a built-in function, and no type
abbrev pub is_called : Fact → Bool
is_called (kind t) = false
is_called (built_in b) = stands_alone b
is_called f = true

-- what an expression is, seen from a statement
pub data Shape : Type 0 where
  -- a call of this
  IsCall : Row → Shape
  IsReceive : Shape
  IsOther : Shape

abbrev pub shape_rule : ℕ → Shape → Rule
shape_rule rule (IsCall callee) = Ask callee (λ f. Say (done_if (is_called f) rule))
shape_rule rule IsReceive = Say done
shape_rule rule IsOther = Say (ill rule)

-- a receive stands alone, and can't be started or deferred
abbrev pub without_receive : Shape → Shape
without_receive IsReceive = IsOther
without_receive shape = shape

abbrev pub expression_rule : Row → Shape → Rule
expression_rule x shape = Ask x (λ f. shape_rule 30 shape)

-- by rule 45 or 46
abbrev pub start_rule : ℕ → Row → Shape → Rule
start_rule rule x shape = Ask x (λ f. shape_rule rule (without_receive shape))

abbrev pub asks_truth : Setting → Fact → (Bool → Rule) → Rule
asks_truth s (value v) k = asks_form s v.of (λ form. k (is_truth form))
asks_truth s f k = k false

abbrev pub if_rule : Setting → Row → Rule
if_rule s condition = Ask condition (λ f. asks_truth s f (λ b. Say (done_if b 39)))

abbrev pub loop_by : Setting → Bool → Option Fact → Rule
loop_by s defines None = Say (done_if (not defines) 42)
loop_by s defines (Some f) = asks_truth s f (λ b. Say (done_if (b && not defines) 42))

-- a condition, if there is one, and whether the last statement of the head is a `:=`
abbrev pub loop_rule : Setting → Option Row → Bool → Rule
loop_rule s condition defines = AskMaybe condition (loop_by s defines)

-- what the clauses receive, whether each of these is a receive, the number of `default`s, and whether only names stand before `:=`
abbrev pub select_rule : List Row → (all_receive : Bool) → (defaults : ℕ) → (names : Bool) → Rule
select_rule receives all_receive defaults names = AskAll receives (λ fs. Say (done_if (all_receive && (nat_le defaults 1 && names)) 44))

-- it has no condition
abbrev pub done_rule : Rule
done_rule = Say done
