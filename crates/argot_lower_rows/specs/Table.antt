-- The table of rows: the script of each node, by what is wanted of it and by its form.
use Rattle.std.specs.Prelude.{ℕ, ◌+◌, Bool, true, false, ◌||◌, List, [], ◌∷◌, codes, Option, Some, None, bytes_eq, if◌then◌else◌}
use Rattle.argot_plain.specs.declared.instructions.Kind.TheVariants.{Op, Go, Defer}
use Rattle.argot_text.specs.declared.path.PathStep.TheVariants.{Channel}
use Rattle.argot_text.specs.declared.position.Pos.{Pos}
use Rattle.argot_tree.specs.declared.node_kind.NodeKind.{NodeKind}
use Rattle.argot_tree.specs.declared.node_kind.NodeKind.TheVariants as nodes
use Rattle.argot_names_rules.specs.Files.{read_of, text_at}
use Rattle.argot_typed.specs.declared.shape.Shape.{Shape}
use Rattle.argot_typed.specs.declared.shape.Shape.TheVariants.{Chars, Array, Map}
use Rattle.argot_lower_scripts.specs.Script.{Around, Task, Value, Part, Reference, Results, Statement, Script, done, part}
use Rattle.argot_lower_scripts.specs.Words.{nothing, answer, one, put_at, value}
use Rattle.argot_lower_locals.specs.Typed.{Typed, FieldStep, MethodOf, Selected}
use Rattle.argot_lower_locals.specs.Nodes.{node, kind, kids, strip, at, written}
use Rattle.argot_lower_locals.specs.Types.{type_at, leaves_at, value_form, element_of, is_text}
use Rattle.argot_lower_locals.specs.Names.{Meaning, Local, Global, Function, meaning, is_nil, is_constant, denotes_type, built_in, selected}
use Rattle.argot_lower_locals.specs.Variables.{is_object}
use Rattle.argot_lower_locals.specs.Places.{has_place, tags}
use Rattle.argot_lower_locals.specs.Globals.{global_number}
use Rattle.argot_lower_rows.specs.Sites.{function_site}
use Rattle.argot_lower_rows.specs.Conversions.{AsType, value_as, conversion_row}
use Rattle.argot_lower_rows.specs.Names.{constant_row, nil_row, register_row, object_row, package_variable_row, object_reference_row, package_reference_row, function_row}
use Rattle.argot_lower_rows.specs.Walks.{selector_row, selector_reference_row}
use Rattle.argot_lower_rows.specs.Indexes.{map_index_row, text_index_row, array_index_row, element_reference, element_row, slice_row}
use Rattle.argot_lower_rows.specs.Operators.{dereference_row, address_row, unary_row, binary_row, both_row, receive_row, assertion_row}
use Rattle.argot_lower_rows.specs.Literals.{composite_row, braces_row, address_of_literal_row}
use Rattle.argot_lower_rows.specs.Functions.{literal_row, method_value_row}
use Rattle.argot_lower_rows.specs.Calls.{call_row}
use Rattle.argot_lower_rows.specs.BuiltIns.{built_in_row}
use Rattle.argot_lower_rows.specs.Assignments.{assign_row, op_assign_row, step_row, specification_row}
use Rattle.argot_lower_rows.specs.Around.{statements, break_row, continue_row, fallthrough_row, label_used}
use Rattle.argot_lower_rows.specs.Branches.{if_statement}
use Rattle.argot_lower_rows.specs.Loops.{while_row, for_row, range_row}
use Rattle.argot_lower_rows.specs.Switches.{clause_body, switch_row, type_switch_row, select_row}
use Rattle.argot_lower_rows.specs.Returns.{return_row, start_row}

-- a name, or a package's member
abbrev pub name_row : Typed → ℕ → Meaning → Script
name_row t n (Local d) = if is_object t d then object_row (at t n) (leaves_at t n) d else register_row d
name_row t n (Global d) = package_variable_row (at t n) (leaves_at t n) (tags t n) (global_number t d)
name_row t n (Function m) = function_row (at t n) (function_site m [] (type_at t n))
name_row t n _ = nothing

abbrev pub selected_row : Typed → ℕ → Bool → ℕ → List FieldStep → Option MethodOf → Script
selected_row t n inner x steps None = selector_row t n inner x steps
selected_row t n inner x steps (Some m) = method_value_row t n x steps m

abbrev pub member_row : Typed → ℕ → Bool → ℕ → Option Selected → Script
member_row t n inner x None = name_row t n (meaning t n)
member_row t n inner x (Some s) = selected_row t n inner x s.steps s.method

abbrev pub index_row : Typed → ℕ → Bool → ℕ → ℕ → Shape → Script
index_row t n inner x i (Map key value) = map_index_row t n x i answer
index_row t n inner x i Chars = text_index_row (at t n) x i
index_row t n inner x i (Array len of) = if has_place t x then element_row t n x i else array_index_row (at t n) (leaves_at t n) (if inner then [] else tags t n) x i
index_row t n inner x i _ = element_row t n x i

abbrev pub sliced_row : Typed → ℕ → ℕ → List ℕ → Script
sliced_row t n x is = slice_row t n x is (is_text (value_form t x))

abbrev pub is_operator : Typed → ℕ → ℕ → List ℕ → Bool
is_operator t n x word = bytes_eq (text_at (read_of t.files (node t n).file) ((node t x).last + 1)) word

-- the operator behind x is `&&` or `||`
abbrev pub is_logical : Typed → ℕ → ℕ → Bool
is_logical t n x = is_operator t n x (codes "&&") || is_operator t n x (codes "||")

abbrev pub address_by : Typed → ℕ → ℕ → ℕ → NodeKind → List ℕ → Script
address_by t n x inner nodes.Composite (type ∷ braces ∷ []) = address_of_literal_row t n inner braces
address_by t n x inner _ _ = address_row x

abbrev pub called_built_in : Typed → ℕ → ℕ → List ℕ → Bool → Option (List ℕ) → Script
called_built_in t n f args spread (Some name) = built_in_row t n name args spread
called_built_in t n f args spread None = call_row t n f args spread

abbrev pub called_value : Typed → ℕ → ℕ → List ℕ → Bool → Script
called_value t n f args spread = called_built_in t n f args spread (built_in t f)

-- T(x), where T is an expression, or f(..)
abbrev pub called_row : Typed → ℕ → ℕ → List ℕ → Bool → Script
called_row t n f (x ∷ []) spread = if denotes_type t f then conversion_row t (at t n) x (type_at t f) else called_value t n f (x ∷ []) spread
called_row t n f args spread = called_value t n f args spread

-- the value of an expression that is neither `nil` nor a constant nor in parentheses
abbrev pub value_by : Typed → ℕ → Bool → NodeKind → List ℕ → Script
value_by t n inner nodes.NameUse _ = name_row t n (meaning t n)
value_by t n inner nodes.DeclName _ = name_row t n (meaning t n)
value_by t n inner nodes.Selector (x ∷ m ∷ []) = member_row t n inner x (selected t n)
value_by t n inner nodes.Index (x ∷ i ∷ []) = index_row t n inner x i (value_form t x)
value_by t n inner nodes.SliceAll (x ∷ is) = sliced_row t n x is
value_by t n inner nodes.SliceFrom (x ∷ is) = sliced_row t n x is
value_by t n inner nodes.SliceTo (x ∷ is) = sliced_row t n x is
value_by t n inner nodes.SliceBetween (x ∷ is) = sliced_row t n x is
value_by t n inner nodes.SliceToMax (x ∷ is) = sliced_row t n x is
value_by t n inner nodes.SliceBetweenMax (x ∷ is) = sliced_row t n x is
value_by t n inner nodes.Deref (x ∷ []) = dereference_row (at t n) (leaves_at t n) x
value_by t n inner nodes.AddressOf (x ∷ []) = address_by t n x (strip t x) (kind t (strip t x)) (kids t (strip t x))
value_by t n inner nodes.Positive (x ∷ []) = unary_row (at t n) x
value_by t n inner nodes.Negative (x ∷ []) = unary_row (at t n) x
value_by t n inner nodes.LogicalNot (x ∷ []) = unary_row (at t n) x
value_by t n inner nodes.Complement (x ∷ []) = unary_row (at t n) x
value_by t n inner nodes.Binary (x ∷ y ∷ []) = if is_logical t n x then both_row (at t n) x y else binary_row (at t n) x y
value_by t n inner nodes.Receive (x ∷ []) = receive_row (at t n) (leaves_at t n) x answer
value_by t n inner nodes.TypeAssertion (x ∷ w ∷ []) = assertion_row t (at t n) (type_at t w) x answer
value_by t n inner nodes.FuncLiteral _ = literal_row t n
value_by t n inner nodes.Composite (type ∷ braces ∷ []) = composite_row t n braces
value_by t n inner nodes.Elems _ = braces_row t n
value_by t n inner nodes.Conversion (w ∷ x ∷ []) = conversion_row t (at t n) x (type_at t w)
value_by t n inner nodes.Call (f ∷ args) = called_row t n f args false
value_by t n inner nodes.SpreadCall (f ∷ args) = called_row t n f args true
value_by t n inner _ _ = nothing

-- first `nil`, then constants, whatever their form
abbrev pub value_row : Typed → ℕ → Bool → Script
value_row t n inner =
    if is_nil t n then nil_row (at t n)
    else (if is_constant t n then constant_row (at t n)
    else value_by t n inner (kind t n) (kids t n))

abbrev pub name_reference : Typed → ℕ → Meaning → Script
name_reference t n (Local d) = object_reference_row d
name_reference t n (Global d) = package_reference_row (at t n) (global_number t d)
name_reference t n _ = nothing

abbrev pub member_reference : Typed → ℕ → ℕ → Option Selected → Script
member_reference t n x None = name_reference t n (meaning t n)
member_reference t n x (Some s) = selector_reference_row t n x s.steps

-- the reference to the place of an expression that isn't in parentheses
abbrev pub reference_by : Typed → ℕ → NodeKind → List ℕ → Script
reference_by t n nodes.NameUse _ = name_reference t n (meaning t n)
reference_by t n nodes.DeclName _ = name_reference t n (meaning t n)
reference_by t n nodes.Selector (x ∷ m ∷ []) = member_reference t n x (selected t n)
reference_by t n nodes.Index (x ∷ i ∷ []) = element_reference t n x i answer
reference_by t n nodes.Deref (x ∷ []) = value x answer
reference_by t n _ _ = nothing

-- a value and its truth value: the row, then ok := Op []
abbrev pub with_truth : Pos → ℕ → Script
with_truth p a = one p (λ o. Op o []) (λ o. done (a ∷ o ∷ []))

abbrev pub results_by : Typed → ℕ → NodeKind → List ℕ → Script
results_by t n nodes.Index (x ∷ i ∷ []) = map_index_row t n x i (with_truth (at t n))
results_by t n nodes.Receive (x ∷ []) = receive_row (at t n) (leaves_at t n) x (with_truth (at t n))
results_by t n nodes.TypeAssertion (x ∷ w ∷ []) = assertion_row t (at t n) (type_at t w) x (with_truth (at t n))
results_by t n k ks = value_row t n false

abbrev pub expression_statement : ℕ → NodeKind → Script
expression_statement x nodes.Call = part Results x (λ _. nothing)
expression_statement x nodes.SpreadCall = part Results x (λ _. nothing)
expression_statement x _ = value x (λ _. nothing)

abbrev pub statement_by : Typed → ℕ → Around → NodeKind → List ℕ → Script
statement_by t n w nodes.Block ks = statements w ks nothing
statement_by t n w nodes.Case ks = statements w (clause_body nodes.Case ks) nothing
statement_by t n w nodes.Default ks = statements w (clause_body nodes.Default ks) nothing
statement_by t n w nodes.SendCase ks = statements w (clause_body nodes.SendCase ks) nothing
statement_by t n w nodes.AssignCase ks = statements w (clause_body nodes.AssignCase ks) nothing
statement_by t n w nodes.DefineCase ks = statements w (clause_body nodes.DefineCase ks) nothing
statement_by t n w nodes.ReceiveCase ks = statements w (clause_body nodes.ReceiveCase ks) nothing
statement_by t n w nodes.Init ks = statements w ks nothing
statement_by t n w nodes.Post ks = statements w ks nothing
statement_by t n w nodes.DeclStmt ks = statements w ks nothing
statement_by t n w nodes.VarDecl ks = statements w ks nothing
statement_by t n w nodes.VarGroup ks = statements w ks nothing
statement_by t n w nodes.VarSpec ks = specification_row t ks
statement_by t n w nodes.Labeled (label ∷ x ∷ []) = part (Statement w) x (λ _. nothing)
statement_by t n w nodes.ExprStmt (x ∷ []) = expression_statement x (kind t (strip t x))
statement_by t n w nodes.Send (x ∷ e ∷ []) = value x (λ a. value_as t e (AsType (element_of (value_form t x))) (λ b. put_at (written t n) a Channel b nothing))
statement_by t n w nodes.Increment (x ∷ []) = step_row t x
statement_by t n w nodes.Decrement (x ∷ []) = step_row t x
statement_by t n w nodes.Assign (xs ∷ es ∷ []) = assign_row t None (kids t xs) (kids t es)
statement_by t n w nodes.Define (xs ∷ es ∷ []) = assign_row t None (kids t xs) (kids t es)
statement_by t n w nodes.OpAssign (xs ∷ es ∷ []) = op_assign_by (kids t xs) (kids t es)
  where
    op_assign_by : List ℕ → List ℕ → Script
    op_assign_by (x ∷ []) (e ∷ []) = op_assign_row t x e
    op_assign_by _ _ = nothing
statement_by t n w nodes.If _ = if_statement t n w
statement_by t n w nodes.While ks = while_row t n w ks
statement_by t n w nodes.For ks = for_row t n w ks
statement_by t n w nodes.Range (x ∷ body ∷ []) = range_row t n w false [] x body
statement_by t n w nodes.AssignRange (xs ∷ x ∷ body ∷ []) = range_row t n w false (kids t xs) x body
statement_by t n w nodes.DefineRange (xs ∷ x ∷ body ∷ []) = range_row t n w true (kids t xs) x body
statement_by t n w nodes.Switch _ = switch_row t n w
statement_by t n w nodes.TypeSwitch _ = type_switch_row t n w
statement_by t n w nodes.Select _ = select_row t n w
statement_by t n w nodes.Return es = return_row t n w es
statement_by t n w nodes.Go ks = start_row t n (λ callee all. Go callee all) ks
statement_by t n w nodes.Defer ks = start_row t n (λ callee all. Defer callee all) ks
statement_by t n w nodes.Break ks = break_row (written t n) (label_used t ks) w
statement_by t n w nodes.Continue ks = continue_row (written t n) (label_used t ks) w
statement_by t n w nodes.Fallthrough _ = fallthrough_row (written t n) w
statement_by t n w _ _ = nothing

-- the script of a node; of an expression in parentheses that of what stands inside
abbrev pub row : Typed → Task → ℕ → Script
row t Value n = value_row t (strip t n) false
row t Part n = value_row t (strip t n) true
row t Reference n = reference_by t (strip t n) (kind t (strip t n)) (kids t (strip t n))
row t Results n = results_by t (strip t n) (kind t (strip t n)) (kids t (strip t n))
row t (Statement w) n = statement_by t n w (kind t n) (kids t n)
