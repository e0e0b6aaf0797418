-- Where `break` and `continue` lead, where `fallthrough` may stand, and labels (Go specification: Labeled statements, Break
-- statements, Continue statements, Fallthrough statements). A label belongs to the statement behind it, through further
-- labels alone.
use Rattle.std.specs.Prelude.{ℕ, zero, suc, ◌==◌, Bool, true, false, ◌&&◌, ◌||◌, List, [], ◌∷◌, length, Option, Some, None, if◌then◌else◌}
use Rattle.argot_tree.specs.declared.node_kind.NodeKind.{NodeKind}
use Rattle.argot_tree.specs.declared.node_kind.NodeKind.TheVariants as nodes
use Rattle.argot_check_source.specs.Code.{Code, children, next_at, siblings, parent_of, is_of, child_of, first_that, head_of, text_of, is_function, is_labeled, is_clause, is_empty}
use Rattle.argot_check_source.specs.Names.{is_text}
use Rattle.argot_check_source.specs.Functions.{function_around}

abbrev pub is_loop : NodeKind → Bool
is_loop nodes.While = true
is_loop nodes.For = true
is_loop nodes.Range = true
is_loop nodes.AssignRange = true
is_loop nodes.DefineRange = true
is_loop _ = false

-- what a `break` leaves
abbrev pub is_breakable : NodeKind → Bool
is_breakable nodes.Switch = true
is_breakable nodes.TypeSwitch = true
is_breakable nodes.Select = true
is_breakable kind = is_loop kind

abbrev pub is_label_use : NodeKind → Bool
is_label_use nodes.LabelUse = true
is_label_use _ = false

-- the statement has the label
abbrev pub has_label : Code → ℕ → List ℕ → ℕ → Option ℕ → Bool
has_label c zero name n at = false
has_label c (suc k) name n None = false
has_label c (suc k) name n (Some p) =
    if is_of c is_labeled p then (elim (head_of (children c p)) [ None ↦ false | Some l ↦ is_text (text_of c l) name ]) || has_label c k name p (parent_of c p) else false

abbrev pub is_labeled_by : Code → List ℕ → ℕ → Bool
is_labeled_by c name n = has_label c (length c.nodes) name n (parent_of c n)

-- the innermost statement around that passes a test, in the same function
abbrev pub innermost : Code → (NodeKind → Bool) → ℕ → Option ℕ → Option ℕ
innermost c test zero at = None
innermost c test (suc k) None = None
innermost c test (suc k) (Some n) = if is_of c is_function n then None else if is_of c test n then Some n else innermost c test k (parent_of c n)

-- the innermost statement around that has a label, if it is one to leave
abbrev pub with_label : Code → List ℕ → ℕ → Option ℕ → Option ℕ
with_label c name zero at = None
with_label c name (suc k) None = None
with_label c name (suc k) (Some n) =
    if is_of c is_function n then None else if is_of c is_breakable n && is_labeled_by c name n then Some n else with_label c name k (parent_of c n)

abbrev pub only_of : Code → (NodeKind → Bool) → Option ℕ → Option ℕ
only_of c test None = None
only_of c test (Some n) = if is_of c test n then Some n else None

-- the statement that a jump of this kind leaves or goes on with
abbrev pub target_by : Code → (NodeKind → Bool) → ℕ → Option ℕ → Option ℕ
target_by c test n None = innermost c test (length c.nodes) (parent_of c n)
target_by c test n (Some label) = only_of c test (with_label c (text_of c label) (length c.nodes) (parent_of c n))

abbrev pub break_target : Code → ℕ → Option ℕ
break_target c n = target_by c is_breakable n (child_of c is_label_use n)

abbrev pub continue_target : Code → ℕ → Option ℕ
continue_target c n = target_by c is_loop n (child_of c is_label_use n)

-- nothing but empty statements stands behind
abbrev pub are_empty : Code → List ℕ → Bool
are_empty c [] = true
are_empty c (n ∷ ns) = is_of c is_empty n && are_empty c ns

abbrev pub behind : Code → ℕ → List ℕ
behind c n = siblings c (length c.nodes) (next_at c n)

abbrev pub is_switch : NodeKind → Bool
is_switch nodes.Switch = true
is_switch _ = false

-- a clause of a switch over an expression behind which another clause stands
abbrev pub is_inner_clause : Code → ℕ → Bool
is_inner_clause c n = is_of c is_clause n && ((elim (parent_of c n) [ None ↦ false | Some p ↦ is_of c is_switch p ]) && elim (next_at c n) [ None ↦ false | Some m ↦ true ])

-- the last statement of such a clause, also behind labels
abbrev pub is_last_inside : Code → ℕ → ℕ → Option ℕ → Bool
is_last_inside c zero n at = false
is_last_inside c (suc k) n None = false
is_last_inside c (suc k) n (Some p) =
    if is_of c is_labeled p then is_last_inside c k p (parent_of c p) else is_inner_clause c p && are_empty c (behind c n)

abbrev pub may_fall_through : Code → ℕ → Bool
may_fall_through c n = is_last_inside c (length c.nodes) n (parent_of c n)

abbrev pub is_same_node : Option ℕ → Option ℕ → Bool
is_same_node None None = true
is_same_node (Some a) (Some b) = a == b
is_same_node _ _ = false

-- a labelled statement of the same function that begins with the same name
abbrev pub has_same_label : Code → ℕ → ℕ → Bool
has_same_label c n m = is_of c is_labeled m && (is_same_node (function_around c n) (function_around c m) && is_text (text_of c n) (text_of c m))

-- no statement before it has the same label
abbrev pub is_first_label : Code → ℕ → Bool
is_first_label c n = elim (first_that (has_same_label c n) n 0) [ None ↦ true | Some m ↦ false ]
