-- The rules of names that are declared: where each has its type from.
use Rattle.std.specs.Prelude.{ℕ, zero, suc, ◌==◌, Bool, true, false, List, [], ◌∷◌, length, Option, Some, None, if◌then◌else◌, is_some}
use Rattle.argot_tree.specs.declared.node_kind.NodeKind.{NodeKind}
use Rattle.argot_tree.specs.declared.node_kind.NodeKind.TheVariants as nodes
use Rattle.argot_check_asking.specs.Rules.{Ask, Say, Silent}
use Rattle.argot_check_types.specs.Types.{named}
use Rattle.argot_check_types.specs.Facts.{kind, done, lost}
use Rattle.argot_check_rules.specs.Rows.{Row, At, Rule, Setting}
use Rattle.argot_check_rules.specs.Typexpr.{Entry}
use Rattle.argot_check_rules.specs.Decl.{written_rule, given_rule, shared_rule, constant_rule, function_name_rule}
use Rattle.argot_check_rules.specs.Range.{range_name_rule}
use Rattle.argot_check_rules.specs.Switches.{clause_rule}
use Rattle.argot_check_source.specs.Code.{Code, kind_at, children, siblings, parent_of, is_of, child_of, head_of, tail_of, place_in, is_exprs}
use Rattle.argot_check_source.specs.Names.{decl_of, use_of, node_of}
use Rattle.argot_check_source.specs.Constants.{values_of, written_of, list_of, is_copied}
use Rattle.argot_check_typing.specs.Positions.{row_of, rows_of, signature_row}
use Rattle.argot_check_typing.specs.Types.{entry_of}

-- the item of that number
abbrev pub item_at : ℕ → List ℕ → Option ℕ
item_at k [] = None
item_at zero (n ∷ ns) = Some n
item_at (suc k) (n ∷ ns) = item_at k ns

abbrev pub given_by : Option ℕ → Rule
given_by None = Say lost
given_by (Some v) = given_rule (At v)

-- name number j of n, by the values: as many, or one for several; else it gets no type
abbrev pub valued_by : (j n : ℕ) → List ℕ → Rule
valued_by j n (v ∷ []) = if n == 1 then given_rule (At v) else shared_rule j n (At v)
valued_by j n vs = if length vs == n then given_by (item_at j vs) else Say lost

abbrev pub values_in : Code → Option ℕ → List ℕ
values_in c None = []
values_in c (Some exprs) = children c exprs

-- a variable of a specification
abbrev pub variable_name_rule : Code → ℕ → ℕ → List ℕ → Rule
variable_name_rule c spec j names =
    elim (written_of c spec) [ None ↦ valued_by j (length names) (values_in c (values_of c spec)) | Some t ↦ written_rule false (At t) ]

-- the specification that copies the list which another one repeats, if it does
abbrev pub copy_of : Code → ℕ → Option ℕ
copy_of c spec = if is_copied c spec then Some spec else None

abbrev pub row_if : Option ℕ → Option ℕ → Option Row
row_if copy None = None
row_if copy (Some n) = Some (row_of copy n)

-- a constant: by its item of the list that its specification has, and by the type that is written there
abbrev pub constant_by_item : Setting → Option ℕ → Option ℕ → Option ℕ → Rule
constant_by_item s copy None t = Say lost
constant_by_item s copy (Some item) t = constant_rule s (row_of copy item) (row_if copy t)

abbrev pub constant_name_rule : Setting → Code → ℕ → ℕ → Rule
constant_name_rule s c spec j =
    elim (list_of c spec) [ None ↦ Say lost | Some list ↦ constant_by_item s (copy_of c spec) (item_at j (values_in c (values_of c list))) (written_of c list) ]

-- a name that its block has already says what the earlier one says
abbrev pub old_row : Code → ℕ → Option Row
old_row c n = elim (use_of c n) [ None ↦ None | Some d ↦ elim (node_of c d) [ None ↦ None | Some m ↦ Some (At m) ] ]

abbrev pub old_name_rule : Option Row → Rule
old_name_rule None = Say done
old_name_rule (Some row) = Ask row (λ f. Say f)

-- a name before `:=`: a new one, one that is there already, or `_`
abbrev pub define_name_rule : Code → ℕ → ℕ → ℕ → List ℕ → Rule
define_name_rule c n stmt j names =
    if is_some (decl_of c n) then valued_by j (length names) (values_in c (child_of c is_exprs stmt)) else old_name_rule (old_row c n)

-- names that stand together, below a node of this kind
abbrev pub listed_name_rule : Setting → Code → ℕ → ℕ → ℕ → List ℕ → NodeKind → Rule
listed_name_rule s c n p j names nodes.VarSpec = variable_name_rule c p j names
listed_name_rule s c n p j names nodes.ConstSpec = constant_name_rule s c p j
listed_name_rule s c n p j names nodes.Define = define_name_rule c n p j names
listed_name_rule s c n p j names _ = Say done

abbrev pub names_rule : Setting → Code → ℕ → ℕ → Rule
names_rule s c n list =
    elim (parent_of c list) [ None ↦ Silent | Some p ↦ elim (kind_at c p) [ None ↦ Silent | Some it ↦ listed_name_rule s c n p (place_in n (children c list)) (children c list) it ] ]

-- a parameter or a result, by its entry and those behind it
abbrev pub entry_name_by : List Entry → Rule
entry_name_by [] = Say lost
entry_name_by (e ∷ es) = written_rule e.variadic e.of

abbrev pub entry_name_rule : Code → ℕ → Rule
entry_name_rule c entry = entry_name_by (entry_of c None (siblings c (length c.nodes) (Some entry)))

abbrev pub type_declared : Option ℕ → Rule
type_declared None = Say lost
type_declared (Some d) = Say (kind (named d))

-- a name that is declared, below a node of this kind
abbrev pub name_below : Setting → Code → ℕ → ℕ → NodeKind → Rule
name_below s c n p nodes.Names = names_rule s c n p
name_below s c n p nodes.TypeSpec = type_declared (decl_of c n)
name_below s c n p nodes.AliasSpec = Ask (At p) (λ f. Say f)
name_below s c n p nodes.FuncDecl = function_name_rule (signature_row c p)
name_below s c n p nodes.NamedParam = entry_name_rule c p
name_below s c n p nodes.LoneParam = entry_name_rule c p
name_below s c n p nodes.NamedVariadic = entry_name_rule c p
name_below s c n p _ = Say done

abbrev pub declared_name_rule : Setting → Code → ℕ → Rule
declared_name_rule s c n = elim (parent_of c n) [ None ↦ Silent | Some p ↦ elim (kind_at c p) [ None ↦ Silent | Some it ↦ name_below s c n p it ] ]

-- Names before `:=` in a `range` or a receive -----------------------------------------------------------------------

-- what stands behind the list on the left
abbrev pub right_of : Code → ℕ → Option ℕ
right_of c stmt = head_of (tail_of (children c stmt))

abbrev pub range_name : Setting → ℕ → Option ℕ → Rule
range_name s j None = Say lost
range_name s j (Some x) = range_name_rule s j (At x)

abbrev pub received_name : (j n : ℕ) → Option ℕ → Rule
received_name j n None = Say lost
received_name j n (Some x) = valued_by j n (x ∷ [])

-- by the kind of the statement
abbrev pub left_name_rule : Setting → Code → ℕ → (j n : ℕ) → NodeKind → Rule
left_name_rule s c stmt j n nodes.DefineRange = range_name s j (right_of c stmt)
left_name_rule s c stmt j n _ = received_name j n (right_of c stmt)

abbrev pub new_left_name : Setting → Code → ℕ → ℕ → ℕ → Rule
new_left_name s c n list stmt =
    elim (kind_at c stmt) [ None ↦ Silent | Some it ↦ left_name_rule s c stmt (place_in n (children c list)) (length (children c list)) it ]

-- a new name, one that is there already, or `_`
abbrev pub left_rule : Setting → Code → ℕ → ℕ → ℕ → Rule
left_rule s c n list stmt = if is_some (decl_of c n) then new_left_name s c n list stmt else old_name_rule (old_row c n)

-- Clauses of a type switch with a name ------------------------------------------------------------------------------

abbrev pub is_guard : NodeKind → Bool
is_guard nodes.Guard = true
is_guard nodes.NamedGuard = true
is_guard _ = false

abbrev pub is_values : NodeKind → Bool
is_values nodes.Values = true
is_values _ = false

abbrev pub is_named_guard : NodeKind → Bool
is_named_guard nodes.NamedGuard = true
is_named_guard _ = false

-- the guard inside one with a name
abbrev pub inner_guard : Code → ℕ → Option ℕ
inner_guard c guard = if is_of c is_named_guard guard then head_of (tail_of (children c guard)) else Some guard

-- the operand of a type switch
abbrev pub switch_operand : Code → ℕ → Option ℕ
switch_operand c stmt =
    elim (child_of c is_guard stmt) [ None ↦ None | Some g ↦ elim (inner_guard c g) [ None ↦ None | Some i ↦ head_of (children c i) ] ]

abbrev pub entries_in : Code → ℕ → List ℕ
entries_in c clause = values_in c (child_of c is_values clause)

abbrev pub clause_by_operand : Code → ℕ → Option ℕ → Rule
clause_by_operand c clause None = Say lost
clause_by_operand c clause (Some x) = clause_rule (At x) (rows_of None (entries_in c clause))

-- a clause that declares the name of its switch; any other is as it should be
abbrev pub case_rule : Code → ℕ → Rule
case_rule c clause =
    if is_some (decl_of c clause) then clause_by_operand c clause (elim (parent_of c clause) [ None ↦ None | Some stmt ↦ switch_operand c stmt ]) else Say done
