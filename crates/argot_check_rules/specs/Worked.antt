-- Each rule that has a condition, on a few facts: once it holds, and once the node is ill. The facts are those of the rows
-- that the rule asks: row n has the n-th.
use Rattle.std.specs.Prelude.{◌≡◌, ℕ, ◌-◌, ◌^◌, true, false, List, [], ◌∷◌, Option, Some, None, codes, pos, negsuc, slice_get}
use Rattle.argot_consts.specs.declared.constants.Const.TheVariants.{Whole, Text}
use Rattle.argot_consts.specs.declared.operators.Binary.TheVariants as ops
use Rattle.argot_consts.specs.declared.operators.Unary.TheVariants as unary
use Rattle.argot_typed.specs.declared.shape.Dir.TheVariants as dirs
use Rattle.argot_check_asking.specs.Rules.{told}
use Rattle.argot_check_types.specs.Types.{bool, string, int, int8, basic, pointer, array, slice, channel, structure, function, untyped, field, also, nothing, bool_type, string_type, int_type, byte_type, any_type}
use Rattle.argot_check_types.specs.Facts.{Plain, Two, Len, Panic, Fact, value, no_value, results, kind, built_in, done, ill, wide, plain, variable, constant_value}
use Rattle.argot_check_rules.specs.Rows.{Row, At, CopyAt, ComparableAt, Rule, Setting}
use Rattle.argot_check_rules.specs.Names.{AsValue, AsEither, AsCallee, PredeclaredType, NoMeaning, name_rule}
use Rattle.argot_check_rules.specs.Expected.{Written}
use Rattle.argot_check_rules.specs.Literals.{WholeToken, NoKey, literal_rule, function_literal_rule, composite_rule}
use Rattle.argot_check_rules.specs.Unary.{unary_rule, deref_rule, address_rule, receive_rule}
use Rattle.argot_check_rules.specs.Binary.{binary_rule}
use Rattle.argot_check_rules.specs.Selectors.{selector_rule}
use Rattle.argot_check_rules.specs.Index.{index_rule, slice_rule}
use Rattle.argot_check_rules.specs.Assertions.{assertion_rule}
use Rattle.argot_check_rules.specs.Calls.{call_rule}
use Rattle.argot_check_rules.specs.Typexpr.{type_name_rule, array_rule, map_rule, pointer_rule}
use Rattle.argot_check_rules.specs.Structs.{WithName, struct_rule}
use Rattle.argot_check_rules.specs.Interfaces.{interface_rule}
use Rattle.argot_check_rules.specs.Decl.{Ending, Open, var_rule, const_rule, func_rule, method_rule}
use Rattle.argot_check_rules.specs.Assignments.{Blank, Put, Free, Old, send_rule, step_rule, assign_rule, op_assign_rule, define_rule}
use Rattle.argot_check_rules.specs.Stmt.{IsCall, IsReceive, IsOther, expression_rule, start_rule, if_rule, loop_rule, select_rule}
use Rattle.argot_check_rules.specs.Switches.{switch_rule, type_switch_rule}
use Rattle.argot_check_rules.specs.Range.{range_rule, define_range_rule}
use Rattle.argot_check_rules.specs.Return.{return_rule}
use Rattle.argot_check_rules.specs.Labels.{jump_rule}

-- a program without declared types
abbrev pub bare : Setting
bare = record { declaration = λ d. None; methods = λ d. []; signature = λ n. At n; depth = 3; home = Some 0 }

abbrev pub known : List Fact → Row → Option Fact
known fs (At n) = slice_get fs n
known fs (CopyAt spec n) = None
known fs (ComparableAt d) = None

-- the rule says this, where the rows have these facts
abbrev pub Gives : Rule → List Fact → Fact → Type 0
Gives r fs f = told (known fs) r ≡ Some f

abbrev pub number : ℕ → Fact
number n = value (constant_value (untyped int) (Whole (pos n)))

abbrev pub text : Fact
text = value (constant_value (untyped string) (Text 1))

abbrev pub an_int : Fact
an_int = value (variable int_type)

abbrev pub a_string : Fact
a_string = value (variable string_type)

abbrev pub a_bool : Fact
a_bool = value (variable bool_type)

abbrev pub a_slice : Fact
a_slice = value (variable (slice int_type))

abbrev pub a_function : Fact
a_function = value (plain (function (also int_type nothing) (also string_type nothing) false))

-- names, literals and operands
pub record WorkedExpressions : Type 0 where
  pub name : Gives (name_rule AsValue NoMeaning) [] (ill 1)
  pub name_of_type : Gives (name_rule AsValue (PredeclaredType int_type)) [] (ill 1)
  pub name_of_called_type : Gives (name_rule AsCallee (PredeclaredType int_type)) [] (kind int_type)
  pub literal : Gives (literal_rule (WholeToken 7)) [] (number 7)
  pub literal_too_wide : Gives (literal_rule (WholeToken (2 ^ 127))) [] wide
  pub function_literal : Gives (function_literal_rule (At 0) true false) (kind (function nothing (also int_type nothing) false) ∷ []) (ill 3)
  pub composite : Gives (composite_rule bare (Written (At 0)) (record { key = NoKey; value = At 1; elided = false } ∷ [])) (kind (slice int_type) ∷ number 1 ∷ []) (value (plain (slice int_type)))
  pub composite_ill : Gives (composite_rule bare (Written (At 0)) (record { key = NoKey; value = At 1; elided = false } ∷ [])) (kind (slice int_type) ∷ text ∷ []) (ill 4)
  pub composite_of_number : Gives (composite_rule bare (Written (At 0)) []) (kind int_type ∷ []) (ill 4)
  pub selector : Gives (selector_rule bare (At 0) (codes "x")) (value (variable (structure (field (codes "x") (Some 0) [] false int_type nothing))) ∷ []) an_int
  pub selector_ill : Gives (selector_rule bare (At 0) (codes "y")) (value (variable (structure (field (codes "x") (Some 0) [] false int_type nothing))) ∷ []) (ill 6)
  pub selector_of_package : Gives (selector_rule bare (At 0) (codes "x")) (value (variable (structure (field (codes "x") (Some 1) [] false int_type nothing))) ∷ []) (ill 6)
  pub index : Gives (index_rule bare (At 0) (At 1)) (a_slice ∷ number 1 ∷ []) an_int
  pub index_ill : Gives (index_rule bare (At 0) (At 1)) (value (variable (array 2 int_type)) ∷ number 2 ∷ []) (ill 7)
  pub slice_ : Gives (slice_rule bare false (At 0) (At 1 ∷ At 2 ∷ [])) (a_slice ∷ number 1 ∷ number 2 ∷ []) (value (plain (slice int_type)))
  pub slice_ill : Gives (slice_rule bare false (At 0) (At 1 ∷ At 2 ∷ [])) (a_slice ∷ number 2 ∷ number 1 ∷ []) (ill 8)
  pub assertion : Gives (assertion_rule bare (At 0) (At 1)) (value (variable any_type) ∷ kind int_type ∷ []) (value (record { of = int_type; constant = None; way = Two; busy = false }))
  pub assertion_ill : Gives (assertion_rule bare (At 0) (At 1)) (an_int ∷ kind int_type ∷ []) (ill 9)
  pub call : Gives (call_rule bare false (At 0) (At 1 ∷ [])) (a_function ∷ number 1 ∷ []) (value (record { of = string_type; constant = None; way = Plain; busy = true }))
  pub call_ill : Gives (call_rule bare false (At 0) []) (a_function ∷ []) (ill 10)
  pub conversion : Gives (call_rule bare false (At 0) (At 1 ∷ [])) (kind (basic int8) ∷ number 100 ∷ []) (value (constant_value (basic int8) (Whole (pos 100))))
  pub conversion_ill : Gives (call_rule bare false (At 0) (At 1 ∷ [])) (kind (basic int8) ∷ number 200 ∷ []) (ill 11)
  pub built_in_ : Gives (call_rule bare false (At 0) (At 1 ∷ [])) (built_in Len ∷ text ∷ []) (value (constant_value int_type (Whole (pos 1))))
  pub built_in_ill : Gives (call_rule bare false (At 0) (At 1 ∷ [])) (built_in Len ∷ an_int ∷ []) (ill 12)
  pub unary_ : Gives (unary_rule bare unary.Complement (At 0)) (value (constant_value byte_type (Whole (pos 1))) ∷ []) (value (constant_value byte_type (Whole (pos 254))))
  pub unary_ill : Gives (unary_rule bare unary.Not (At 0)) (an_int ∷ []) (ill 13)
  pub unary_wide : Gives (unary_rule bare unary.Negate (At 0)) (value (constant_value (untyped int) (Whole (negsuc (2 ^ 127 - 1)))) ∷ []) wide
  pub sum : Gives (binary_rule bare ops.Plus (At 0) (At 1)) (an_int ∷ number 1 ∷ []) (value (plain int_type))
  pub sum_ill : Gives (binary_rule bare ops.Plus (At 0) (At 1)) (an_int ∷ a_string ∷ []) (ill 14)
  pub sum_wide : Gives (binary_rule bare ops.Plus (At 0) (At 1)) (number (2 ^ 127 - 1) ∷ number 1 ∷ []) wide
  pub equal_ill : Gives (binary_rule bare ops.Equal (At 0) (At 1)) (a_slice ∷ a_slice ∷ []) (ill 14)
  pub equal_nil : Gives (binary_rule bare ops.Equal (At 0) (At 1)) (a_slice ∷ no_value ∷ []) (value (plain (untyped bool)))
  pub quotient_ill : Gives (binary_rule bare ops.Divide (At 0) (At 1)) (an_int ∷ number 0 ∷ []) (ill 14)
  pub shift : Gives (binary_rule bare ops.ShiftLeft (At 0) (At 1)) (number 1 ∷ an_int ∷ []) (value (plain (untyped int)))
  pub deref_ill : Gives (deref_rule bare AsEither (At 0)) (an_int ∷ []) (ill 15)
  pub address : Gives (address_rule false (At 0)) (an_int ∷ []) (value (plain (pointer int_type)))
  pub address_ill : Gives (address_rule false (At 0)) (number 1 ∷ []) (ill 16)
  pub receive : Gives (receive_rule bare (At 0)) (value (variable (channel dirs.Receive int_type)) ∷ []) (value (record { of = int_type; constant = None; way = Two; busy = true }))
  pub receive_ill : Gives (receive_rule bare (At 0)) (value (variable (channel dirs.Send int_type)) ∷ []) (ill 17)

-- types and declarations
pub record WorkedDeclarations : Type 0 where
  pub type_name_ill : Gives (type_name_rule NoMeaning) [] (ill 20)
  pub array_ : Gives (array_rule AsEither (At 0) (At 1)) (number 3 ∷ kind int_type ∷ []) (kind (array 3 int_type))
  pub array_ill : Gives (array_rule AsEither (At 0) (At 1)) (an_int ∷ kind int_type ∷ []) (ill 21)
  pub map_as_value : Gives (map_rule AsValue (At 0) (At 1)) (kind int_type ∷ kind int_type ∷ []) (ill 23)
  pub struct : Gives (struct_rule AsEither (record { name = codes "a"; home = Some 0; tag = []; writing = WithName; of = At 0 } ∷ record { name = codes "a"; home = Some 0; tag = []; writing = WithName; of = At 0 } ∷ [])) (kind int_type ∷ []) (ill 24)
  pub interface_ : Gives (interface_rule bare AsEither [] (At 0 ∷ [])) (kind int_type ∷ []) (ill 25)
  pub pointer_as_value : Gives (pointer_rule AsValue (At 0)) (kind int_type ∷ []) (ill 26)
  pub variable_ : Gives (var_rule bare 1 (At 0 ∷ []) (Some (At 1))) (number 1 ∷ kind int_type ∷ []) done
  pub variable_ill : Gives (var_rule bare 1 (At 0 ∷ []) None) (no_value ∷ []) (ill 36)
  pub variables_of_call : Gives (var_rule bare 2 (At 0 ∷ []) None) (results (int_type ∷ string_type ∷ []) ∷ []) done
  pub constant_ill : Gives (const_rule bare 1 (At 0 ∷ []) None) (an_int ∷ []) (ill 37)
  pub function_ill : Gives (func_rule (At 0) true Open false) (kind (function nothing (also int_type nothing) false) ∷ []) (ill 53)
  pub main_ill : Gives (func_rule (At 0) true Ending true) (kind (function nothing (also int_type nothing) false) ∷ []) (ill 53)
  pub method_ill : Gives (method_rule bare (At 0) (At 1) true Ending (record { name = codes "m"; alone = true }) None) (kind (function nothing nothing false) ∷ kind int_type ∷ []) (ill 54)

-- statements
pub record WorkedStatements : Type 0 where
  pub alone : Gives (expression_rule (At 0) IsOther) (an_int ∷ []) (ill 30)
  pub alone_called : Gives (expression_rule (At 0) (IsCall (At 1))) (an_int ∷ built_in Len ∷ []) (ill 30)
  pub alone_panic : Gives (expression_rule (At 0) (IsCall (At 1))) (results [] ∷ built_in Panic ∷ []) done
  pub send : Gives (send_rule bare (At 0) (At 1)) (value (variable (channel dirs.Receive int_type)) ∷ number 1 ∷ []) (ill 31)
  pub step : Gives (step_rule bare (At 0)) (a_string ∷ []) (ill 32)
  pub assign : Gives (assign_rule bare (Put (At 0) ∷ Blank ∷ []) (At 1 ∷ At 2 ∷ [])) (an_int ∷ number 1 ∷ text ∷ []) done
  pub assign_ill : Gives (assign_rule bare (Put (At 0) ∷ []) (At 1 ∷ [])) (an_int ∷ text ∷ []) (ill 33)
  pub assign_nil : Gives (assign_rule bare (Blank ∷ []) (At 0 ∷ [])) (no_value ∷ []) (ill 33)
  pub op_assign : Gives (op_assign_rule bare ops.Minus (At 0 ∷ []) (At 1 ∷ [])) (a_string ∷ a_string ∷ []) (ill 34)
  pub define : Gives (define_rule bare (Free (codes "a") ∷ []) (At 0 ∷ [])) (number 1 ∷ []) done
  pub define_nothing_new : Gives (define_rule bare (Old (codes "a") (At 1) ∷ []) (At 0 ∷ [])) (number 1 ∷ an_int ∷ []) (ill 35)
  pub if_ : Gives (if_rule bare (At 0)) (an_int ∷ []) (ill 39)
  pub switch : Gives (switch_rule bare (Some (At 0)) (At 1 ∷ At 1 ∷ []) 0) (an_int ∷ number 1 ∷ []) (ill 40)
  pub switch_true : Gives (switch_rule bare None (At 0 ∷ []) 1) (a_bool ∷ []) done
  pub type_switch : Gives (type_switch_rule bare (At 0) (At 1 ∷ []) 0) (an_int ∷ kind int_type ∷ []) (ill 41)
  pub loop : Gives (loop_rule bare (Some (At 0)) false) (number 1 ∷ []) (ill 42)
  pub range : Gives (range_rule bare (At 0)) (an_int ∷ []) (ill 43)
  pub range_of_channel : Gives (define_range_rule bare (At 0) 2 (codes "a" ∷ codes "b" ∷ []) []) (value (variable (channel dirs.Both int_type)) ∷ []) (ill 43)
  pub select_ : Gives (select_rule [] true 2 true) [] (ill 44)
  pub go_ : Gives (start_rule 45 (At 0) IsReceive) (an_int ∷ []) (ill 45)
  pub defer_ : Gives (start_rule 46 (At 0) (IsCall (At 1))) (an_int ∷ kind int_type ∷ []) (ill 46)
  pub return_ : Gives (return_rule bare (At 0) false (At 1 ∷ [])) (kind (function nothing (also int_type nothing) false) ∷ text ∷ []) (ill 47)
  pub return_none : Gives (return_rule bare (At 0) true []) (kind (function nothing (also int_type nothing) false) ∷ []) done
  pub break_ : Gives (jump_rule 48 false) [] (ill 48)
