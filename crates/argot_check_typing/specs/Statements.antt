-- The rules of declarations and statements, node by node. None of them stands in a list of constants, so none is copied.
use Rattle.std.specs.Prelude.{ℕ, Bool, true, false, not, ◌&&◌, ◌||◌, List, [], ◌∷◌, ◌++◌, length, Option, Some, None, if◌then◌else◌, is_some, codes}
use Rattle.argot_tree.specs.declared.node_kind.NodeKind.{NodeKind}
use Rattle.argot_tree.specs.declared.node_kind.NodeKind.TheVariants as nodes
use Rattle.argot_check_asking.specs.Rules.{Say, Silent}
use Rattle.argot_check_types.specs.Facts.{done}
use Rattle.argot_check_rules.specs.Rows.{Row, At, Rule, Setting}
use Rattle.argot_check_rules.specs.Structs.{are_distinct}
use Rattle.argot_check_rules.specs.Assignments.{Target, Blank, Put, Left, Free, Old, send_rule, step_rule, assign_rule, op_assign_rule, define_rule}
use Rattle.argot_check_rules.specs.Decl.{Body, NoBody, Ending, Open, var_rule, const_rule, no_list_rule, type_rule, alias_rule, func_rule, method_rule}
use Rattle.argot_check_rules.specs.Stmt.{Shape, IsCall, IsReceive, IsOther, expression_rule, start_rule, if_rule, loop_rule, select_rule}
use Rattle.argot_check_rules.specs.Switches.{switch_rule, type_switch_rule}
use Rattle.argot_check_rules.specs.Range.{range_rule, define_range_rule, assign_range_rule}
use Rattle.argot_check_rules.specs.Return.{return_rule}
use Rattle.argot_check_rules.specs.Labels.{jump_rule}
use Rattle.argot_check_source.specs.Code.{Code, kind_at, children, is_of, child_of, all_of, head_of, text_of, stripped, is_names, is_name_use, is_clause, is_default}
use Rattle.argot_check_source.specs.Names.{is_text}
use Rattle.argot_check_source.specs.Functions.{signature_of, body_of, receiver_of, function_around, has_named_results, names_of_function, texts_of}
use Rattle.argot_check_source.specs.Constants.{values_of, written_of, list_of}
use Rattle.argot_check_source.specs.Jumps.{break_target, continue_target, may_fall_through, is_first_label}
use Rattle.argot_check_source.specs.Terminating.{is_terminating}
use Rattle.argot_check_source.specs.Methods.{type_of_spec, receiver_type, base_of, is_alone, method_name}
use Rattle.argot_check_typing.specs.Positions.{rows_of, signature_row}
use Rattle.argot_check_typing.specs.Expressions.{with_one, with_two, operator_before}
use Rattle.argot_check_typing.specs.Bindings.{values_in, copy_of, row_if, old_row, switch_operand, entries_in, case_rule}

abbrev pub own_rows : List ℕ → List Row
own_rows ns = rows_of None ns

-- Declarations ------------------------------------------------------------------------------------------------------

abbrev pub names_of : Code → ℕ → List ℕ
names_of c spec = values_in c (child_of c is_names spec)

abbrev pub var_at : Setting → Code → ℕ → Rule
var_at s c spec = var_rule s (length (names_of c spec)) (own_rows (values_in c (values_of c spec))) (row_if None (written_of c spec))

-- a specification of constants by its own list or by the one that it repeats
abbrev pub const_at : Setting → Code → ℕ → Rule
const_at s c spec =
    elim (list_of c spec) [ None ↦ no_list_rule | Some list ↦ const_rule s (length (names_of c spec)) (rows_of (copy_of c spec) (values_in c (values_of c list))) (row_if (copy_of c spec) (written_of c list)) ]

abbrev pub with_type : Code → ℕ → (Row → Rule) → Rule
with_type c spec k = elim (type_of_spec c spec) [ None ↦ Silent | Some t ↦ k (At t) ]

abbrev pub body_by : Code → Option ℕ → Body
body_by c None = NoBody
body_by c (Some b) = if is_terminating c b then Ending else Open

abbrev pub is_first_function : List ℕ → Bool
is_first_function name = is_text name (codes "main") || is_text name (codes "init")

abbrev pub base_decl : Code → ℕ → Option ℕ
base_decl c n = elim (base_of c n) [ None ↦ None | Some b ↦ Some b.decl ]

abbrev pub function_at : Code → ℕ → Rule
function_at c n = func_rule (signature_row c n) (are_distinct (names_of_function c n)) (body_by c (body_of c n)) (is_first_function (method_name c n))

abbrev pub method_at : Setting → Code → ℕ → Rule
method_at s c n =
    elim (receiver_type c n) [
      | None ↦ Silent
      | Some t ↦ method_rule s (signature_row c n) (At t) (are_distinct (names_of_function c n)) (body_by c (body_of c n)) (record { name = method_name c n; alone = is_alone c n }) (base_decl c n)
    ]

abbrev pub func_at : Setting → Code → ℕ → Rule
func_at s c n = elim (receiver_of c n) [ None ↦ function_at c n | Some r ↦ method_at s c n ]

-- Assignments -------------------------------------------------------------------------------------------------------

abbrev pub is_blank : Code → ℕ → Bool
is_blank c n = is_of c is_name_use n && is_text (text_of c n) (codes "_")

abbrev pub targets : Code → List ℕ → List Target
targets c [] = []
targets c (n ∷ ns) = (if is_blank c n then Blank else Put (At n)) ∷ targets c ns

-- names before `:=`: those that it declares and `_`, and those that are there already
abbrev pub left_names : Code → List ℕ → List Left
left_names c [] = []
left_names c (n ∷ ns) = (elim (old_row c n) [ None ↦ Free (text_of c n) | Some row ↦ Old (text_of c n) row ]) ∷ left_names c ns

abbrev pub assign_at : Setting → Code → ℕ → Rule
assign_at s c n = with_two (children c n) (λ left right. assign_rule s (targets c (children c left)) (own_rows (children c right)))

abbrev pub op_assign_at : Setting → Code → ℕ → Rule
op_assign_at s c n =
    with_two (children c n) (λ left right.
    elim (operator_before c right) [ None ↦ Silent | Some op ↦ op_assign_rule s op (own_rows (children c left)) (own_rows (children c right)) ])

abbrev pub define_at : Setting → Code → ℕ → Rule
define_at s c n = with_two (children c n) (λ left right. define_rule s (left_names c (children c left)) (own_rows (children c right)))

-- Clauses of a `select` ---------------------------------------------------------------------------------------------

abbrev pub are_names : Code → List ℕ → Bool
are_names c [] = true
are_names c (n ∷ ns) = is_of c is_name_use n && are_names c ns

abbrev pub assign_case_at : Setting → Code → ℕ → Rule
assign_case_at s c n = with_two (children c n) (λ left x. assign_rule s (targets c (children c left)) (At x ∷ []))

-- where an expression before `:=` is no name, the `select` is ill, and not its clause
abbrev pub define_case_at : Setting → Code → ℕ → Rule
define_case_at s c n =
    with_two (children c n) (λ left x. if are_names c (children c left) then define_rule s (left_names c (children c left)) (At x ∷ []) else Say done)

abbrev pub is_receive : NodeKind → Bool
is_receive nodes.Receive = true
is_receive _ = false

-- what a clause that is no send receives
abbrev pub received_by : List ℕ → NodeKind → List ℕ
received_by (x ∷ ns) nodes.ReceiveCase = x ∷ []
received_by (left ∷ x ∷ ns) nodes.AssignCase = x ∷ []
received_by (left ∷ x ∷ ns) nodes.DefineCase = x ∷ []
received_by ns kind = []

abbrev pub receives_of : Code → List ℕ → List ℕ
receives_of c [] = []
receives_of c (n ∷ ns) = (elim (kind_at c n) [ None ↦ [] | Some kind ↦ received_by (children c n) kind ]) ++ receives_of c ns

abbrev pub all_receive : Code → List ℕ → Bool
all_receive c [] = true
all_receive c (n ∷ ns) = is_of c is_receive (stripped c n) && all_receive c ns

abbrev pub is_define_case : NodeKind → Bool
is_define_case nodes.DefineCase = true
is_define_case _ = false

abbrev pub names_only : Code → List ℕ → Bool
names_only c [] = true
names_only c (n ∷ ns) = (elim (head_of (children c n)) [ None ↦ true | Some left ↦ not (is_of c is_define_case n) || are_names c (children c left) ]) && names_only c ns

abbrev pub select_at : Code → ℕ → Rule
select_at c n =
    select_rule (own_rows (receives_of c (children c n))) (all_receive c (receives_of c (children c n))) (length (all_of c is_default (children c n))) (names_only c (children c n))

-- Switches ----------------------------------------------------------------------------------------------------------

abbrev pub is_init : NodeKind → Bool
is_init nodes.Init = true
is_init _ = false

-- the first child that is neither a statement before a semicolon nor a clause
abbrev pub is_switched : NodeKind → Bool
is_switched kind = not (is_init kind) && not (is_clause kind)

abbrev pub entries_of_all : Code → List ℕ → List ℕ
entries_of_all c [] = []
entries_of_all c (n ∷ ns) = entries_in c n ++ entries_of_all c ns

abbrev pub clauses_of : Code → ℕ → List ℕ
clauses_of c n = all_of c is_clause (children c n)

abbrev pub switch_at : Setting → Code → ℕ → Rule
switch_at s c n =
    switch_rule s (row_if None (child_of c is_switched n)) (own_rows (entries_of_all c (clauses_of c n))) (length (all_of c is_default (children c n)))

abbrev pub type_switch_at : Setting → Code → ℕ → Rule
type_switch_at s c n =
    elim (switch_operand c n) [ None ↦ Silent | Some x ↦ type_switch_rule s (At x) (own_rows (entries_of_all c (clauses_of c n))) (length (all_of c is_default (children c n))) ]

-- Loops and `if` ----------------------------------------------------------------------------------------------------

abbrev pub is_part_of_head : NodeKind → Bool
is_part_of_head nodes.Init = true
is_part_of_head nodes.Post = true
is_part_of_head nodes.Block = true
is_part_of_head nodes.If = true
is_part_of_head _ = false

abbrev pub is_condition : NodeKind → Bool
is_condition kind = not (is_part_of_head kind)

abbrev pub condition_of : Code → ℕ → Option ℕ
condition_of c n = child_of c is_condition n

abbrev pub is_post : NodeKind → Bool
is_post nodes.Post = true
is_post _ = false

abbrev pub is_define : NodeKind → Bool
is_define nodes.Define = true
is_define _ = false

-- the last statement in the head of a `for` is a `:=`
abbrev pub post_defines : Code → ℕ → Bool
post_defines c n = elim (child_of c is_post n) [ None ↦ false | Some p ↦ elim (head_of (children c p)) [ None ↦ false | Some x ↦ is_of c is_define x ] ]

abbrev pub if_at : Setting → Code → ℕ → Rule
if_at s c n = elim (condition_of c n) [ None ↦ Silent | Some x ↦ if_rule s (At x) ]

abbrev pub loop_at : Setting → Code → ℕ → Rule
loop_at s c n = loop_rule s (row_if None (condition_of c n)) (post_defines c n)

abbrev pub assign_range_at : Setting → Code → ℕ → Rule
assign_range_at s c n = with_two (children c n) (λ left x. assign_range_rule s (At x) (targets c (children c left)))

abbrev pub is_no_name : NodeKind → Bool
is_no_name kind = not (is_name_use kind)

abbrev pub define_range_at : Setting → Code → ℕ → Rule
define_range_at s c n =
    with_two (children c n) (λ left x.
    define_range_rule s (At x) (length (children c left)) (texts_of c (all_of c is_name_use (children c left))) (own_rows (all_of c is_no_name (children c left))))

-- Calls that stand alone, and `return` ------------------------------------------------------------------------------

abbrev pub shape_by : Code → ℕ → NodeKind → Shape
shape_by c n nodes.Receive = IsReceive
shape_by c n nodes.Call = elim (head_of (children c n)) [ None ↦ IsOther | Some f ↦ IsCall (At f) ]
shape_by c n nodes.SpreadCall = elim (head_of (children c n)) [ None ↦ IsOther | Some f ↦ IsCall (At f) ]
shape_by c n _ = IsOther

abbrev pub shape_of : Code → ℕ → Shape
shape_of c n = elim (kind_at c n) [ None ↦ IsOther | Some kind ↦ shape_by c n kind ]

abbrev pub return_in : Setting → Code → ℕ → Option ℕ → Rule
return_in s c n None = Silent
return_in s c n (Some signature) = return_rule s (At signature) (has_named_results c signature) (own_rows (children c n))

abbrev pub return_at : Setting → Code → ℕ → Rule
return_at s c n = elim (function_around c n) [ None ↦ Silent | Some f ↦ return_in s c n (signature_of c f) ]

-- The rule of a declaration or a statement --------------------------------------------------------------------------

abbrev pub statement_at : Setting → Code → ℕ → NodeKind → Rule
statement_at s c n nodes.VarSpec = var_at s c n
statement_at s c n nodes.ConstSpec = const_at s c n
statement_at s c n nodes.TypeSpec = with_type c n (type_rule s)
statement_at s c n nodes.AliasSpec = with_type c n alias_rule
statement_at s c n nodes.FuncDecl = func_at s c n
statement_at s c n nodes.ExprStmt = with_one (children c n) (λ x. expression_rule (At x) (shape_of c (stripped c x)))
statement_at s c n nodes.Go = with_one (children c n) (λ x. start_rule 45 (At x) (shape_of c x))
statement_at s c n nodes.Defer = with_one (children c n) (λ x. start_rule 46 (At x) (shape_of c x))
statement_at s c n nodes.Send = with_two (children c n) (λ ch x. send_rule s (At ch) (At x))
statement_at s c n nodes.SendCase = with_two (children c n) (λ ch x. send_rule s (At ch) (At x))
statement_at s c n nodes.Increment = with_one (children c n) (λ x. step_rule s (At x))
statement_at s c n nodes.Decrement = with_one (children c n) (λ x. step_rule s (At x))
statement_at s c n nodes.Assign = assign_at s c n
statement_at s c n nodes.AssignCase = assign_case_at s c n
statement_at s c n nodes.OpAssign = op_assign_at s c n
statement_at s c n nodes.Define = define_at s c n
statement_at s c n nodes.DefineCase = define_case_at s c n
statement_at s c n nodes.If = if_at s c n
statement_at s c n nodes.Switch = switch_at s c n
statement_at s c n nodes.TypeSwitch = type_switch_at s c n
statement_at s c n nodes.Case = case_rule c n
statement_at s c n nodes.Default = case_rule c n
statement_at s c n nodes.Select = select_at c n
statement_at s c n nodes.While = loop_at s c n
statement_at s c n nodes.For = loop_at s c n
statement_at s c n nodes.Range = with_one (children c n) (λ x. range_rule s (At x))
statement_at s c n nodes.AssignRange = assign_range_at s c n
statement_at s c n nodes.DefineRange = define_range_at s c n
statement_at s c n nodes.Return = return_at s c n
statement_at s c n nodes.Break = jump_rule 48 (is_some (break_target c n))
statement_at s c n nodes.Continue = jump_rule 49 (is_some (continue_target c n))
statement_at s c n nodes.Fallthrough = jump_rule 50 (may_fall_through c n)
statement_at s c n nodes.Labeled = jump_rule 51 (is_first_label c n)
statement_at s c n _ = Say done
