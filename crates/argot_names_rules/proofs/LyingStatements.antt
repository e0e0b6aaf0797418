-- The nodes of statements lie in order.
use Rattle.std.proofs.Common.{ℕ, ◌+◌, arith}
use Rattle.argot_tree.specs.declared.node_kind.NodeKind.TheVariants as nodes
use Rattle.argot_tree.specs.Forests.{Forest, leaf, beside, one}
use Rattle.argot_names_rules.proofs.Lying.{Lies, lies_le, none_in, widen_in, beside_in, one_in, never}

pub in_block : (x : Forest) (from : ℕ) (to : ℕ) → Lies x (from + 1) to → Lies (one nodes.Block from (to + 1) x) from (to + 1)
in_block x from to o_s1 =
    let le_s1 = lies_le x (from + 1) to o_s1 in
    one_in nodes.Block from (to + 1) from (to + 1) x (omega arith) (omega arith) (omega arith) (widen_in x (from + 1) to from (to + 1) (omega arith) (omega arith) o_s1) (λ _. widen_in x (from + 1) to (from + 1) (to + 1) (omega arith) (omega arith) o_s1)

pub in_no_stmt : (from : ℕ) → Lies leaf from from
in_no_stmt from =
    none_in from from (omega arith)

pub in_last_stmt : (x : Forest) (from : ℕ) (to : ℕ) → Lies x from to → Lies x from to
in_last_stmt x from to o_s0 =
    let le_s0 = lies_le x from to o_s0 in
    widen_in x from to from to (omega arith) (omega arith) o_s0

pub in_one_stmt : (x : Forest) (y : Forest) (from : ℕ) (mid : ℕ) (to : ℕ) → Lies x from mid → Lies y (mid + 1) to → Lies (beside x y) from to
in_one_stmt x y from mid to o_s0 o_s2 =
    let le_s0 = lies_le x from mid o_s0 in
    let le_s2 = lies_le y (mid + 1) to o_s2 in
    beside_in x y from mid to (widen_in x from mid from mid (omega arith) (omega arith) o_s0) (widen_in y (mid + 1) to mid to (omega arith) (omega arith) o_s2)

pub in_empty_stmt : (x : Forest) (from : ℕ) (to : ℕ) → Lies x (from + 1) to → Lies (beside (one nodes.Empty from from leaf) x) from to
in_empty_stmt x from to o_s1 =
    let le_s1 = lies_le x (from + 1) to o_s1 in
    beside_in (one nodes.Empty from from leaf) x from from to (one_in nodes.Empty from from from from leaf (omega arith) (omega arith) (omega arith) (none_in from from (omega arith)) (λ e. never e)) (widen_in x (from + 1) to from to (omega arith) (omega arith) o_s1)

pub in_decl_stmt : (x : Forest) (from : ℕ) (to : ℕ) → Lies x from to → Lies (one nodes.DeclStmt from to x) from to
in_decl_stmt x from to o_s0 =
    let le_s0 = lies_le x from to o_s0 in
    one_in nodes.DeclStmt from to from to x (omega arith) (omega arith) (omega arith) (widen_in x from to from to (omega arith) (omega arith) o_s0) (λ e. never e)

pub in_simple_stmt : (x : Forest) (from : ℕ) (to : ℕ) → Lies x from to → Lies x from to
in_simple_stmt x from to o_s0 =
    let le_s0 = lies_le x from to o_s0 in
    widen_in x from to from to (omega arith) (omega arith) o_s0

pub in_labeled : (x : Forest) (from : ℕ) (to : ℕ) → Lies x (from + 2) to → Lies (one nodes.Labeled from to (beside (one nodes.DeclName from (from + 1) leaf) x)) from to
in_labeled x from to o_s2 =
    let le_s2 = lies_le x (from + 2) to o_s2 in
    one_in nodes.Labeled from to from to (beside (one nodes.DeclName from (from + 1) leaf) x) (omega arith) (omega arith) (omega arith) (beside_in (one nodes.DeclName from (from + 1) leaf) x from (from + 1) to (one_in nodes.DeclName from (from + 1) from (from + 1) leaf (omega arith) (omega arith) (omega arith) (none_in from (from + 1) (omega arith)) (λ e. never e)) (widen_in x (from + 2) to (from + 1) to (omega arith) (omega arith) o_s2)) (λ e. never e)

pub in_labeled_empty : (from : ℕ) → Lies (one nodes.Labeled from (from + 2) (beside (one nodes.DeclName from (from + 1) leaf) (one nodes.Empty (from + 2) (from + 2) leaf))) from (from + 2)
in_labeled_empty from =
    one_in nodes.Labeled from (from + 2) from (from + 2) (beside (one nodes.DeclName from (from + 1) leaf) (one nodes.Empty (from + 2) (from + 2) leaf)) (omega arith) (omega arith) (omega arith) (beside_in (one nodes.DeclName from (from + 1) leaf) (one nodes.Empty (from + 2) (from + 2) leaf) from (from + 1) (from + 2) (one_in nodes.DeclName from (from + 1) from (from + 1) leaf (omega arith) (omega arith) (omega arith) (none_in from (from + 1) (omega arith)) (λ e. never e)) (one_in nodes.Empty (from + 2) (from + 2) (from + 1) (from + 2) leaf (omega arith) (omega arith) (omega arith) (none_in (from + 2) (from + 2) (omega arith)) (λ e. never e))) (λ e. never e)

pub in_go_stmt : (x : Forest) (from : ℕ) (to : ℕ) → Lies x (from + 1) to → Lies (one nodes.Go from to x) from to
in_go_stmt x from to o_s1 =
    let le_s1 = lies_le x (from + 1) to o_s1 in
    one_in nodes.Go from to from to x (omega arith) (omega arith) (omega arith) (widen_in x (from + 1) to from to (omega arith) (omega arith) o_s1) (λ e. never e)

pub in_defer_stmt : (x : Forest) (from : ℕ) (to : ℕ) → Lies x (from + 1) to → Lies (one nodes.Defer from to x) from to
in_defer_stmt x from to o_s1 =
    let le_s1 = lies_le x (from + 1) to o_s1 in
    one_in nodes.Defer from to from to x (omega arith) (omega arith) (omega arith) (widen_in x (from + 1) to from to (omega arith) (omega arith) o_s1) (λ e. never e)

pub in_return_none : (from : ℕ) → Lies (one nodes.Return from (from + 1) leaf) from (from + 1)
in_return_none from =
    one_in nodes.Return from (from + 1) from (from + 1) leaf (omega arith) (omega arith) (omega arith) (none_in from (from + 1) (omega arith)) (λ e. never e)

pub in_return_values : (x : Forest) (from : ℕ) (to : ℕ) → Lies x (from + 1) to → Lies (one nodes.Return from to x) from to
in_return_values x from to o_s1 =
    let le_s1 = lies_le x (from + 1) to o_s1 in
    one_in nodes.Return from to from to x (omega arith) (omega arith) (omega arith) (widen_in x (from + 1) to from to (omega arith) (omega arith) o_s1) (λ e. never e)

pub in_break_stmt : (x : Forest) (from : ℕ) (to : ℕ) → Lies x (from + 1) to → Lies (one nodes.Break from to x) from to
in_break_stmt x from to o_s1 =
    let le_s1 = lies_le x (from + 1) to o_s1 in
    one_in nodes.Break from to from to x (omega arith) (omega arith) (omega arith) (widen_in x (from + 1) to from to (omega arith) (omega arith) o_s1) (λ e. never e)

pub in_continue_stmt : (x : Forest) (from : ℕ) (to : ℕ) → Lies x (from + 1) to → Lies (one nodes.Continue from to x) from to
in_continue_stmt x from to o_s1 =
    let le_s1 = lies_le x (from + 1) to o_s1 in
    one_in nodes.Continue from to from to x (omega arith) (omega arith) (omega arith) (widen_in x (from + 1) to from to (omega arith) (omega arith) o_s1) (λ e. never e)

pub in_goto_stmt : (from : ℕ) → Lies (one nodes.Goto from (from + 2) (one nodes.LabelUse (from + 1) (from + 2) leaf)) from (from + 2)
in_goto_stmt from =
    one_in nodes.Goto from (from + 2) from (from + 2) (one nodes.LabelUse (from + 1) (from + 2) leaf) (omega arith) (omega arith) (omega arith) (one_in nodes.LabelUse (from + 1) (from + 2) from (from + 2) leaf (omega arith) (omega arith) (omega arith) (none_in (from + 1) (from + 2) (omega arith)) (λ e. never e)) (λ e. never e)

pub in_fallthrough_stmt : (from : ℕ) → Lies (one nodes.Fallthrough from (from + 1) leaf) from (from + 1)
in_fallthrough_stmt from =
    one_in nodes.Fallthrough from (from + 1) from (from + 1) leaf (omega arith) (omega arith) (omega arith) (none_in from (from + 1) (omega arith)) (λ e. never e)

pub in_block_stmt : (x : Forest) (from : ℕ) (to : ℕ) → Lies x from to → Lies x from to
in_block_stmt x from to o_s0 =
    let le_s0 = lies_le x from to o_s0 in
    widen_in x from to from to (omega arith) (omega arith) o_s0

pub in_if_stmt : (x : Forest) (from : ℕ) (to : ℕ) → Lies x from to → Lies x from to
in_if_stmt x from to o_s0 =
    let le_s0 = lies_le x from to o_s0 in
    widen_in x from to from to (omega arith) (omega arith) o_s0

pub in_no_label : (from : ℕ) → Lies leaf from from
in_no_label from =
    none_in from from (omega arith)

pub in_a_label : (from : ℕ) → Lies (one nodes.LabelUse from (from + 1) leaf) from (from + 1)
in_a_label from =
    one_in nodes.LabelUse from (from + 1) from (from + 1) leaf (omega arith) (omega arith) (omega arith) (none_in from (from + 1) (omega arith)) (λ e. never e)

pub in_expr_stmt : (x : Forest) (from : ℕ) (to : ℕ) → Lies x from to → Lies (one nodes.ExprStmt from to x) from to
in_expr_stmt x from to o_s0 =
    let le_s0 = lies_le x from to o_s0 in
    one_in nodes.ExprStmt from to from to x (omega arith) (omega arith) (omega arith) (widen_in x from to from to (omega arith) (omega arith) o_s0) (λ e. never e)

pub in_send : (x : Forest) (y : Forest) (from : ℕ) (mid : ℕ) (to : ℕ) → Lies x from mid → Lies y (mid + 1) to → Lies (one nodes.Send from to (beside x y)) from to
in_send x y from mid to o_s0 o_s2 =
    let le_s0 = lies_le x from mid o_s0 in
    let le_s2 = lies_le y (mid + 1) to o_s2 in
    one_in nodes.Send from to from to (beside x y) (omega arith) (omega arith) (omega arith) (beside_in x y from mid to (widen_in x from mid from mid (omega arith) (omega arith) o_s0) (widen_in y (mid + 1) to mid to (omega arith) (omega arith) o_s2)) (λ e. never e)

pub in_increment : (x : Forest) (from : ℕ) (to : ℕ) → Lies x from to → Lies (one nodes.Increment from (to + 1) x) from (to + 1)
in_increment x from to o_s0 =
    let le_s0 = lies_le x from to o_s0 in
    one_in nodes.Increment from (to + 1) from (to + 1) x (omega arith) (omega arith) (omega arith) (widen_in x from to from (to + 1) (omega arith) (omega arith) o_s0) (λ e. never e)

pub in_decrement : (x : Forest) (from : ℕ) (to : ℕ) → Lies x from to → Lies (one nodes.Decrement from (to + 1) x) from (to + 1)
in_decrement x from to o_s0 =
    let le_s0 = lies_le x from to o_s0 in
    one_in nodes.Decrement from (to + 1) from (to + 1) x (omega arith) (omega arith) (omega arith) (widen_in x from to from (to + 1) (omega arith) (omega arith) o_s0) (λ e. never e)

pub in_assign : (x : Forest) (y : Forest) (from : ℕ) (mid : ℕ) (to : ℕ) → Lies x from mid → Lies y (mid + 1) to → Lies (one nodes.Assign from to (beside (one nodes.Exprs from mid x) (one nodes.Exprs (mid + 1) to y))) from to
in_assign x y from mid to o_s0 o_s2 =
    let le_s0 = lies_le x from mid o_s0 in
    let le_s2 = lies_le y (mid + 1) to o_s2 in
    one_in nodes.Assign from to from to (beside (one nodes.Exprs from mid x) (one nodes.Exprs (mid + 1) to y)) (omega arith) (omega arith) (omega arith) (beside_in (one nodes.Exprs from mid x) (one nodes.Exprs (mid + 1) to y) from mid to (one_in nodes.Exprs from mid from mid x (omega arith) (omega arith) (omega arith) (widen_in x from mid from mid (omega arith) (omega arith) o_s0) (λ e. never e)) (one_in nodes.Exprs (mid + 1) to mid to y (omega arith) (omega arith) (omega arith) (widen_in y (mid + 1) to (mid + 1) to (omega arith) (omega arith) o_s2) (λ e. never e))) (λ e. never e)

pub in_op_assign : (x : Forest) (y : Forest) (from : ℕ) (mid : ℕ) (to : ℕ) → Lies x from mid → Lies y (mid + 1) to → Lies (one nodes.OpAssign from to (beside (one nodes.Exprs from mid x) (one nodes.Exprs (mid + 1) to y))) from to
in_op_assign x y from mid to o_s0 o_s2 =
    let le_s0 = lies_le x from mid o_s0 in
    let le_s2 = lies_le y (mid + 1) to o_s2 in
    one_in nodes.OpAssign from to from to (beside (one nodes.Exprs from mid x) (one nodes.Exprs (mid + 1) to y)) (omega arith) (omega arith) (omega arith) (beside_in (one nodes.Exprs from mid x) (one nodes.Exprs (mid + 1) to y) from mid to (one_in nodes.Exprs from mid from mid x (omega arith) (omega arith) (omega arith) (widen_in x from mid from mid (omega arith) (omega arith) o_s0) (λ e. never e)) (one_in nodes.Exprs (mid + 1) to mid to y (omega arith) (omega arith) (omega arith) (widen_in y (mid + 1) to (mid + 1) to (omega arith) (omega arith) o_s2) (λ e. never e))) (λ e. never e)

pub in_define : (x : Forest) (y : Forest) (from : ℕ) (mid : ℕ) (to : ℕ) → Lies x from mid → Lies y (mid + 1) to → Lies (one nodes.Define from to (beside (one nodes.Names from mid x) (one nodes.Exprs (mid + 1) to y))) from to
in_define x y from mid to o_s0 o_s2 =
    let le_s0 = lies_le x from mid o_s0 in
    let le_s2 = lies_le y (mid + 1) to o_s2 in
    one_in nodes.Define from to from to (beside (one nodes.Names from mid x) (one nodes.Exprs (mid + 1) to y)) (omega arith) (omega arith) (omega arith) (beside_in (one nodes.Names from mid x) (one nodes.Exprs (mid + 1) to y) from mid to (one_in nodes.Names from mid from mid x (omega arith) (omega arith) (omega arith) (widen_in x from mid from mid (omega arith) (omega arith) o_s0) (λ e. never e)) (one_in nodes.Exprs (mid + 1) to mid to y (omega arith) (omega arith) (omega arith) (widen_in y (mid + 1) to (mid + 1) to (omega arith) (omega arith) o_s2) (λ e. never e))) (λ e. never e)
