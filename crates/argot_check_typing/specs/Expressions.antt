-- The rules of expressions and types, node by node.
use Rattle.std.specs.Prelude.{ℕ, ◌-◌, Bool, true, false, ◌&&◌, List, [], ◌∷◌, Option, Some, None, if◌then◌else◌, slice_get, is_some, codes}
use Rattle.argot_tree.specs.declared.mark.Mark.{Mark}
use Rattle.argot_tree.specs.declared.mark.Mark.TheVariants as marks
use Rattle.argot_tree.specs.declared.node_kind.NodeKind.{NodeKind}
use Rattle.argot_tree.specs.declared.node_kind.NodeKind.TheVariants as nodes
use Rattle.argot_tree.specs.declared.token.Token.{Token}
use Rattle.argot_tree.specs.declared.token.TokenKind.{TokenKind}
use Rattle.argot_tree.specs.declared.token.TokenKind.TheVariants as kinds
use Rattle.argot_consts.specs.declared.operators.Binary.{Binary}
use Rattle.argot_consts.specs.declared.operators.Binary.TheVariants as ops
use Rattle.argot_consts.specs.declared.operators.Unary.{Unary}
use Rattle.argot_consts.specs.declared.operators.Unary.TheVariants as unary
use Rattle.argot_typed.specs.declared.shape.Dir.{Dir}
use Rattle.argot_typed.specs.declared.shape.Dir.TheVariants as dirs
use Rattle.argot_names_rules.specs.Files.{read_of}
use Rattle.argot_check_asking.specs.Rules.{Say, Silent}
use Rattle.argot_check_types.specs.Facts.{done}
use Rattle.argot_check_rules.specs.Rows.{Rule, Setting}
use Rattle.argot_check_rules.specs.Names.{name_rule, key_rule}
use Rattle.argot_check_rules.specs.Literals.{Position, Numbered, Keyed, literal_rule, function_literal_rule, composite_rule, item_rule}
use Rattle.argot_check_rules.specs.Unary.{parens_rule, unary_rule, deref_rule, address_rule, receive_rule}
use Rattle.argot_check_rules.specs.Binary.{binary_rule}
use Rattle.argot_check_rules.specs.Selectors.{member_rule, selector_rule}
use Rattle.argot_check_rules.specs.Index.{index_rule, slice_rule}
use Rattle.argot_check_rules.specs.Assertions.{assertion_rule}
use Rattle.argot_check_rules.specs.Calls.{call_rule}
use Rattle.argot_check_rules.specs.Conversions.{conversion_rule}
use Rattle.argot_check_rules.specs.Typexpr.{type_name_rule, type_parens_rule, pointer_rule, slice_type_rule, channel_rule, array_rule, map_rule, function_type_rule, signature_rule}
use Rattle.argot_check_rules.specs.Structs.{struct_rule, are_distinct}
use Rattle.argot_check_rules.specs.Interfaces.{interface_rule}
use Rattle.argot_check_source.specs.Code.{Code, children, parent_of, is_of, head_of, text_of, stripped}
use Rattle.argot_check_source.specs.Names.{is_text, use_of}
use Rattle.argot_check_source.specs.Functions.{names_of_function, results_of}
use Rattle.argot_check_source.specs.Terminating.{is_terminating}
use Rattle.argot_check_typing.specs.Positions.{row_of, rows_of, is_first, stands_at}
use Rattle.argot_check_typing.specs.Meanings.{meaning_at}
use Rattle.argot_check_typing.specs.Literals.{literal_token, source_of, item_source, key_source, items_of, key_text, item_number}
use Rattle.argot_check_typing.specs.Types.{parameter_entries, result_entries, is_variadic_list, fields_of, written_methods, embedded_rows}
use Rattle.argot_check_typing.specs.Bindings.{left_rule}

-- Rules by the children of a node; a tree that spells its tokens has them
abbrev pub with_one : List ℕ → (ℕ → Rule) → Rule
with_one (x ∷ ns) k = k x
with_one [] k = Silent

abbrev pub with_two : List ℕ → (ℕ → ℕ → Rule) → Rule
with_two (x ∷ y ∷ ns) k = k x y
with_two _ k = Silent

-- Operators ---------------------------------------------------------------------------------------------------------

abbrev pub mark_of : TokenKind → Option Mark
mark_of (kinds.Mark m) = Some m
mark_of _ = None

abbrev pub mark_in : Option Token → Option Mark
mark_in None = None
mark_in (Some t) = mark_of t.kind

-- the mark that stands before a node
abbrev pub mark_before : Code → ℕ → Option Mark
mark_before c n = elim (slice_get c.nodes n) [ None ↦ None | Some x ↦ mark_in (slice_get (read_of c.files x.file).tokens (x.token - 1)) ]

abbrev pub operator_of : Mark → Option Binary
operator_of marks.Star = Some ops.Times
operator_of marks.Slash = Some ops.Divide
operator_of marks.Percent = Some ops.Remainder
operator_of marks.ShiftLeft = Some ops.ShiftLeft
operator_of marks.ShiftRight = Some ops.ShiftRight
operator_of marks.And = Some ops.BitAnd
operator_of marks.AndNot = Some ops.BitClear
operator_of marks.Plus = Some ops.Plus
operator_of marks.Minus = Some ops.Minus
operator_of marks.Or = Some ops.BitOr
operator_of marks.Xor = Some ops.BitXor
operator_of marks.Equal = Some ops.Equal
operator_of marks.NotEqual = Some ops.NotEqual
operator_of marks.Less = Some ops.Less
operator_of marks.LessEqual = Some ops.AtMost
operator_of marks.Greater = Some ops.Greater
operator_of marks.GreaterEqual = Some ops.AtLeast
operator_of marks.LogicalAnd = Some ops.Both
operator_of marks.LogicalOr = Some ops.Either
operator_of marks.StarAssign = Some ops.Times
operator_of marks.SlashAssign = Some ops.Divide
operator_of marks.PercentAssign = Some ops.Remainder
operator_of marks.ShiftLeftAssign = Some ops.ShiftLeft
operator_of marks.ShiftRightAssign = Some ops.ShiftRight
operator_of marks.AndAssign = Some ops.BitAnd
operator_of marks.AndNotAssign = Some ops.BitClear
operator_of marks.PlusAssign = Some ops.Plus
operator_of marks.MinusAssign = Some ops.Minus
operator_of marks.OrAssign = Some ops.BitOr
operator_of marks.XorAssign = Some ops.BitXor
operator_of _ = None

-- the operator before an operand
abbrev pub operator_before : Code → ℕ → Option Binary
operator_before c n = elim (mark_before c n) [ None ↦ None | Some m ↦ operator_of m ]

abbrev pub binary_at : Setting → Code → Option ℕ → ℕ → ℕ → Rule
binary_at s c copy x y = elim (operator_before c y) [ None ↦ Silent | Some op ↦ binary_rule s op (row_of copy x) (row_of copy y) ]

-- Names -------------------------------------------------------------------------------------------------------------

-- statements whose expressions on the left `:=` declares, and those to which `=` assigns
abbrev pub defines_left : NodeKind → Bool
defines_left nodes.DefineRange = true
defines_left nodes.DefineCase = true
defines_left _ = false

abbrev pub assigns_left : NodeKind → Bool
assigns_left nodes.Assign = true
assigns_left nodes.AssignRange = true
assigns_left nodes.AssignCase = true
assigns_left _ = false

-- the statement on whose left, in a list that stands first, the node is
abbrev pub left_of : Code → (NodeKind → Bool) → ℕ → ℕ → Option ℕ
left_of c test list stmt = if is_of c test stmt && is_first c stmt list then Some stmt else None

abbrev pub statement_left : Code → (NodeKind → Bool) → ℕ → Option ℕ
statement_left c test n =
    elim (parent_of c n) [ None ↦ None | Some list ↦ elim (parent_of c list) [ None ↦ None | Some stmt ↦ left_of c test list stmt ] ]

abbrev pub is_keyed : NodeKind → Bool
is_keyed nodes.KeyedItem = true
is_keyed _ = false

-- a key of an item
abbrev pub is_key : Code → ℕ → Bool
is_key c n = elim (parent_of c n) [ None ↦ false | Some item ↦ is_of c is_keyed item && is_first c item n ]

abbrev pub key_at : Setting → Code → Option ℕ → ℕ → Rule
key_at s c copy n = elim (key_source c copy n) [ None ↦ Silent | Some source ↦ key_rule s source (stands_at c n) (meaning_at c copy n) ]

-- `_` on the left of `=` is no value
abbrev pub is_left_blank : Code → ℕ → Bool
is_left_blank c n = is_text (text_of c n) (codes "_") && is_some (statement_left c assigns_left n)

abbrev pub use_at : Setting → Code → Option ℕ → ℕ → Rule
use_at s c copy n =
    if is_left_blank c n then Say done else if is_key c n then key_at s c copy n else name_rule (stands_at c n) (meaning_at c copy n)

-- a name as an expression
abbrev pub name_use_at : Setting → Code → Option ℕ → ℕ → Rule
name_use_at s c copy n =
    elim (statement_left c defines_left n) [ None ↦ use_at s c copy n | Some stmt ↦ elim (parent_of c n) [ None ↦ Silent | Some list ↦ left_rule s c n list stmt ] ]

-- Selectors, literals, calls ----------------------------------------------------------------------------------------

abbrev pub selector_at : Setting → Code → Option ℕ → ℕ → ℕ → ℕ → Rule
selector_at s c copy n x m =
    if is_some (use_of c m) then member_rule (row_of copy x) (stands_at c n) (meaning_at c copy m) else selector_rule s (row_of copy x) (text_of c m)

abbrev pub is_composite : NodeKind → Bool
is_composite nodes.Composite = true
is_composite _ = false

abbrev pub function_literal_at : Code → Option ℕ → ℕ → ℕ → ℕ → Rule
function_literal_at c copy n signature body =
    function_literal_rule (row_of copy signature) (are_distinct (names_of_function c n)) (is_terminating c body)

abbrev pub composite_at : Setting → Code → Option ℕ → ℕ → Rule
composite_at s c copy elems = elim (source_of c copy elems) [ None ↦ Say done | Some source ↦ composite_rule s source (items_of c copy elems) ]

-- elements in braces: outermost the composite literal has their type; inside they are a literal of their own
abbrev pub elems_at : Setting → Code → Option ℕ → ℕ → Rule
elems_at s c copy n = elim (parent_of c n) [ None ↦ Silent | Some p ↦ if is_of c is_composite p then Say done else composite_at s c copy n ]

abbrev pub item_at_place : Setting → Code → Option ℕ → ℕ → Position → Rule
item_at_place s c copy n at = elim (item_source c copy n) [ None ↦ Silent | Some source ↦ item_rule s source at ]

abbrev pub call_at : Setting → Code → Option ℕ → Bool → List ℕ → Rule
call_at s c copy spread (f ∷ args) = call_rule s spread (row_of copy f) (rows_of copy args)
call_at s c copy spread [] = Silent

abbrev pub slice_at : Setting → Option ℕ → Bool → List ℕ → Rule
slice_at s copy three (x ∷ is) = slice_rule s three (row_of copy x) (rows_of copy is)
slice_at s copy three [] = Silent

-- The rule of an expression -----------------------------------------------------------------------------------------

abbrev pub unary_at : Setting → Code → Option ℕ → ℕ → Unary → Rule
unary_at s c copy n op = with_one (children c n) (λ x. unary_rule s op (row_of copy x))

abbrev pub expression_at : Setting → Code → Option ℕ → ℕ → NodeKind → Rule
expression_at s c copy n nodes.Binary = with_two (children c n) (λ x y. binary_at s c copy x y)
expression_at s c copy n nodes.Positive = unary_at s c copy n unary.Same
expression_at s c copy n nodes.Negative = unary_at s c copy n unary.Negate
expression_at s c copy n nodes.LogicalNot = unary_at s c copy n unary.Not
expression_at s c copy n nodes.Complement = unary_at s c copy n unary.Complement
expression_at s c copy n nodes.Deref = with_one (children c n) (λ x. deref_rule s (stands_at c n) (row_of copy x))
expression_at s c copy n nodes.AddressOf = with_one (children c n) (λ x. address_rule (is_of c is_composite (stripped c x)) (row_of copy x))
expression_at s c copy n nodes.Receive = with_one (children c n) (λ x. receive_rule s (row_of copy x))
expression_at s c copy n nodes.Literal = literal_rule (literal_token c n)
expression_at s c copy n nodes.NameUse = name_use_at s c copy n
expression_at s c copy n nodes.Parens = with_one (children c n) (λ x. parens_rule (row_of copy x))
expression_at s c copy n nodes.FuncLiteral = with_two (children c n) (λ signature body. function_literal_at c copy n signature body)
expression_at s c copy n nodes.Composite = with_two (children c n) (λ t elems. composite_at s c copy elems)
expression_at s c copy n nodes.Conversion = with_two (children c n) (λ t x. conversion_rule s (row_of copy t) (row_of copy x))
expression_at s c copy n nodes.Selector = with_two (children c n) (λ x m. selector_at s c copy n x m)
expression_at s c copy n nodes.Index = with_two (children c n) (λ x i. index_rule s (row_of copy x) (row_of copy i))
expression_at s c copy n nodes.SliceAll = slice_at s copy false (children c n)
expression_at s c copy n nodes.SliceFrom = slice_at s copy false (children c n)
expression_at s c copy n nodes.SliceTo = slice_at s copy false (children c n)
expression_at s c copy n nodes.SliceBetween = slice_at s copy false (children c n)
expression_at s c copy n nodes.SliceToMax = slice_at s copy true (children c n)
expression_at s c copy n nodes.SliceBetweenMax = slice_at s copy true (children c n)
expression_at s c copy n nodes.TypeAssertion = with_two (children c n) (λ x t. assertion_rule s (row_of copy x) (row_of copy t))
expression_at s c copy n nodes.Call = call_at s c copy false (children c n)
expression_at s c copy n nodes.SpreadCall = call_at s c copy true (children c n)
expression_at s c copy n nodes.Elems = elems_at s c copy n
expression_at s c copy n nodes.Item = item_at_place s c copy n (Numbered (item_number c n))
expression_at s c copy n nodes.KeyedItem = item_at_place s c copy n (Keyed (key_text c (children c n)))
expression_at s c copy n _ = Silent

-- The rule of a type ------------------------------------------------------------------------------------------------

abbrev pub channel_at : Code → Option ℕ → ℕ → Dir → Rule
channel_at c copy n dir = with_one (children c n) (λ t. channel_rule (stands_at c n) dir (row_of copy t))

abbrev pub signature_at : Code → Option ℕ → ℕ → Rule
signature_at c copy n =
    signature_rule (parameter_entries c copy (head_of (children c n))) (result_entries c copy (results_of c n)) (is_variadic_list c (head_of (children c n)))

abbrev pub type_at : Setting → Code → Option ℕ → ℕ → NodeKind → Rule
type_at s c copy n nodes.TypeName = type_name_rule (meaning_at c copy n)
type_at s c copy n nodes.QualifiedType = type_name_rule (meaning_at c copy n)
type_at s c copy n nodes.TypeParens = with_one (children c n) (λ t. type_parens_rule (row_of copy t))
type_at s c copy n nodes.PointerType = with_one (children c n) (λ t. pointer_rule (stands_at c n) (row_of copy t))
type_at s c copy n nodes.ArrayType = with_two (children c n) (λ len t. array_rule (stands_at c n) (row_of copy len) (row_of copy t))
type_at s c copy n nodes.SliceType = with_one (children c n) (λ t. slice_type_rule (stands_at c n) (row_of copy t))
type_at s c copy n nodes.MapType = with_two (children c n) (λ key t. map_rule (stands_at c n) (row_of copy key) (row_of copy t))
type_at s c copy n nodes.ChanType = channel_at c copy n dirs.Both
type_at s c copy n nodes.SendType = channel_at c copy n dirs.Send
type_at s c copy n nodes.ReceiveType = channel_at c copy n dirs.Receive
type_at s c copy n nodes.FuncType = with_one (children c n) (λ signature. function_type_rule (stands_at c n) (row_of copy signature))
type_at s c copy n nodes.StructType = struct_rule (stands_at c n) (fields_of c copy (children c n))
type_at s c copy n nodes.InterfaceType = interface_rule s (stands_at c n) (written_methods c copy (children c n)) (embedded_rows c copy (children c n))
type_at s c copy n nodes.Signature = signature_at c copy n
type_at s c copy n _ = Say done
