-- Statements behind which nothing runs (Go specification: Terminating statements).
use Rattle.std.specs.Prelude.{ℕ, zero, suc, ◌==◌, Bool, true, false, not, ◌&&◌, ◌||◌, List, [], ◌∷◌, length, Option, Some, None, if◌then◌else◌, codes, drop}
use Rattle.argot_tree.specs.declared.node_kind.NodeKind.{NodeKind}
use Rattle.argot_tree.specs.declared.node_kind.NodeKind.TheVariants as nodes
use Rattle.argot_check_source.specs.Code.{Code, kind_at, children, is_of, all_of, first_of, head_of, tail_of, stripped, first_that, is_call, is_name_use, is_clause, is_default, is_empty, is_labeled}
use Rattle.argot_check_source.specs.Names.{is_predeclared}
use Rattle.argot_check_source.specs.Jumps.{break_target, is_same_node}

abbrev pub is_break : NodeKind → Bool
is_break nodes.Break = true
is_break _ = false

abbrev pub is_fallthrough : NodeKind → Bool
is_fallthrough nodes.Fallthrough = true
is_fallthrough _ = false

-- a `break` leads out of the statement
abbrev pub is_left : Code → ℕ → Bool
is_left c n = elim (first_that (λ m. is_of c is_break m && is_same_node (break_target c m) (Some n)) (length c.nodes) 0) [ None ↦ false | Some m ↦ true ]

-- a call of the predeclared `panic`, parentheses aside
abbrev pub calls_panic : Code → ℕ → Bool
calls_panic c n = elim (head_of (children c (stripped c n))) [ None ↦ false | Some f ↦ is_of c is_call (stripped c n) && (is_of c is_name_use (stripped c f) && is_predeclared c (codes "panic") (stripped c f)) ]

-- the last statement that isn't empty
abbrev pub last_of : Code → Option ℕ → List ℕ → Option ℕ
last_of c best [] = best
last_of c best (n ∷ ns) = last_of c (if is_of c is_empty n then best else Some n) ns

-- the statements of a clause stand behind its values or its communication
abbrev pub head_length : NodeKind → ℕ
head_length nodes.Case = 1
head_length nodes.SendCase = 2
head_length nodes.AssignCase = 2
head_length nodes.DefineCase = 2
head_length nodes.ReceiveCase = 1
head_length _ = 0

abbrev pub statements_of : Code → ℕ → List ℕ
statements_of c n = elim (kind_at c n) [ None ↦ [] | Some kind ↦ drop (head_length kind) (children c n) ]

-- behind labels, at most so many
abbrev pub unlabeled : Code → ℕ → ℕ → ℕ
unlabeled c zero n = n
unlabeled c (suc k) n = if is_of c is_labeled n then (elim (head_of (tail_of (children c n))) [ None ↦ n | Some m ↦ unlabeled c k m ]) else n

abbrev pub falls_through : Code → Option ℕ → Bool
falls_through c None = false
falls_through c (Some n) = is_of c is_fallthrough (unlabeled c (length c.nodes) n)

abbrev pub is_terminating_last : (ℕ → Bool) → Option ℕ → Bool
is_terminating_last ends None = false
is_terminating_last ends (Some n) = ends n

abbrev pub all_clauses_end : (ℕ → Bool) → Code → Bool → List ℕ → Bool
all_clauses_end ends c may_fall [] = true
all_clauses_end ends c may_fall (n ∷ ns) =
    (is_terminating_last ends (last_of c None (statements_of c n)) || may_fall && falls_through c (last_of c None (statements_of c n)))
    && all_clauses_end ends c may_fall ns

-- the two branches of an `if`, which are blocks or an `if`
abbrev pub is_branch : NodeKind → Bool
is_branch nodes.Block = true
is_branch nodes.If = true
is_branch _ = false

abbrev pub both_end : (ℕ → Bool) → List ℕ → Bool
both_end ends (a ∷ b ∷ []) = ends a && ends b
both_end ends ns = false

-- a loop's parts beside its body: those of a `for` are two where there is no condition
abbrev pub is_endless : NodeKind → ℕ → Bool
is_endless nodes.While n = n == 1
is_endless nodes.For n = n == 3
is_endless _ n = false

abbrev pub is_terminating_kind : (ℕ → Bool) → Code → ℕ → NodeKind → Bool
is_terminating_kind ends c n nodes.Return = true
is_terminating_kind ends c n nodes.Goto = true
is_terminating_kind ends c n nodes.ExprStmt = elim (head_of (children c n)) [ None ↦ false | Some x ↦ calls_panic c x ]
is_terminating_kind ends c n nodes.Block = is_terminating_last ends (last_of c None (children c n))
is_terminating_kind ends c n nodes.If = both_end ends (all_of c is_branch (children c n))
is_terminating_kind ends c n nodes.While = is_endless nodes.While (length (children c n)) && not (is_left c n)
is_terminating_kind ends c n nodes.For = is_endless nodes.For (length (children c n)) && not (is_left c n)
is_terminating_kind ends c n nodes.Labeled = is_terminating_last ends (head_of (tail_of (children c n)))
is_terminating_kind ends c n nodes.Switch =
    (elim (first_of c is_default (children c n)) [ None ↦ false | Some d ↦ true ]) && (not (is_left c n) && all_clauses_end ends c true (all_of c is_clause (children c n)))
is_terminating_kind ends c n nodes.TypeSwitch =
    (elim (first_of c is_default (children c n)) [ None ↦ false | Some d ↦ true ]) && (not (is_left c n) && all_clauses_end ends c true (all_of c is_clause (children c n)))
is_terminating_kind ends c n nodes.Select = not (is_left c n) && all_clauses_end ends c false (all_of c is_clause (children c n))
is_terminating_kind ends c n _ = false

-- through at most so many statements that stand in each other
abbrev pub is_terminating_within : Code → ℕ → ℕ → Bool
is_terminating_within c zero n = false
is_terminating_within c (suc k) n = elim (kind_at c n) [ None ↦ false | Some kind ↦ is_terminating_kind (is_terminating_within c k) c n kind ]

-- the statement is terminating
unfoldable pub is_terminating : Code → ℕ → Bool
is_terminating c n = is_terminating_within c (length c.nodes) n
