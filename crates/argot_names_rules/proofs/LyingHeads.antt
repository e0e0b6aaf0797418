-- The nodes of heads, clauses and loops lie in order.
use Rattle.std.proofs.Common.{ℕ, ◌+◌, arith}
use Rattle.argot_tree.specs.declared.node_kind.NodeKind.TheVariants as nodes
use Rattle.argot_tree.specs.Forests.{Forest, leaf, beside, one}
use Rattle.argot_names_rules.proofs.Lying.{Lies, lies_le, none_in, widen_in, beside_in, one_in, never}

pub in_no_init : (from : ℕ) → Lies leaf from from
in_no_init from =
    none_in from from (omega arith)

pub in_empty_init : (from : ℕ) → Lies (one nodes.Init from from (one nodes.Empty from from leaf)) from (from + 1)
in_empty_init from =
    one_in nodes.Init from from from (from + 1) (one nodes.Empty from from leaf) (omega arith) (omega arith) (omega arith) (one_in nodes.Empty from from from from leaf (omega arith) (omega arith) (omega arith) (none_in from from (omega arith)) (λ e. never e)) (λ e. never e)

pub in_an_init : (x : Forest) (from : ℕ) (to : ℕ) → Lies x from to → Lies (one nodes.Init from to x) from (to + 1)
in_an_init x from to o_s0 =
    let le_s0 = lies_le x from to o_s0 in
    one_in nodes.Init from to from (to + 1) x (omega arith) (omega arith) (omega arith) (widen_in x from to from to (omega arith) (omega arith) o_s0) (λ e. never e)

pub in_if_ : (x : Forest) (y : Forest) (z : Forest) (w : Forest) (from : ℕ) (mid : ℕ) (mid2 : ℕ) (mid3 : ℕ) (to : ℕ) → Lies x (from + 1) mid → Lies y mid mid2 → Lies z mid2 mid3 → Lies w mid3 to → Lies (one nodes.If from to (beside x (beside y (beside z w)))) from to
in_if_ x y z w from mid mid2 mid3 to o_s1 o_s2 o_s3 o_s4 =
    let le_s1 = lies_le x (from + 1) mid o_s1 in
    let le_s2 = lies_le y mid mid2 o_s2 in
    let le_s3 = lies_le z mid2 mid3 o_s3 in
    let le_s4 = lies_le w mid3 to o_s4 in
    one_in nodes.If from to from to (beside x (beside y (beside z w))) (omega arith) (omega arith) (omega arith) (beside_in x (beside y (beside z w)) from mid to (widen_in x (from + 1) mid from mid (omega arith) (omega arith) o_s1) (beside_in y (beside z w) mid mid2 to (widen_in y mid mid2 mid mid2 (omega arith) (omega arith) o_s2) (beside_in z w mid2 mid3 to (widen_in z mid2 mid3 mid2 mid3 (omega arith) (omega arith) o_s3) (widen_in w mid3 to mid3 to (omega arith) (omega arith) o_s4)))) (λ _. beside_in x (beside y (beside z w)) (from + 1) mid to (widen_in x (from + 1) mid (from + 1) mid (omega arith) (omega arith) o_s1) (beside_in y (beside z w) mid mid2 to (widen_in y mid mid2 mid mid2 (omega arith) (omega arith) o_s2) (beside_in z w mid2 mid3 to (widen_in z mid2 mid3 mid2 mid3 (omega arith) (omega arith) o_s3) (widen_in w mid3 to mid3 to (omega arith) (omega arith) o_s4))))

pub in_no_else : (from : ℕ) → Lies leaf from from
in_no_else from =
    none_in from from (omega arith)

pub in_else_if : (x : Forest) (from : ℕ) (to : ℕ) → Lies x (from + 1) to → Lies x from to
in_else_if x from to o_s1 =
    let le_s1 = lies_le x (from + 1) to o_s1 in
    widen_in x (from + 1) to from to (omega arith) (omega arith) o_s1

pub in_else_block : (x : Forest) (from : ℕ) (to : ℕ) → Lies x (from + 1) to → Lies x from to
in_else_block x from to o_s1 =
    let le_s1 = lies_le x (from + 1) to o_s1 in
    widen_in x (from + 1) to from to (omega arith) (omega arith) o_s1

pub in_switch : (x : Forest) (y : Forest) (z : Forest) (from : ℕ) (mid : ℕ) (mid2 : ℕ) (to : ℕ) → Lies x (from + 1) mid → Lies y mid mid2 → Lies z (mid2 + 1) to → Lies (one nodes.Switch from (to + 1) (beside x (beside y z))) from (to + 1)
in_switch x y z from mid mid2 to o_s1 o_s2 o_s4 =
    let le_s1 = lies_le x (from + 1) mid o_s1 in
    let le_s2 = lies_le y mid mid2 o_s2 in
    let le_s4 = lies_le z (mid2 + 1) to o_s4 in
    one_in nodes.Switch from (to + 1) from (to + 1) (beside x (beside y z)) (omega arith) (omega arith) (omega arith) (beside_in x (beside y z) from mid (to + 1) (widen_in x (from + 1) mid from mid (omega arith) (omega arith) o_s1) (beside_in y z mid mid2 (to + 1) (widen_in y mid mid2 mid mid2 (omega arith) (omega arith) o_s2) (widen_in z (mid2 + 1) to mid2 (to + 1) (omega arith) (omega arith) o_s4))) (λ _. beside_in x (beside y z) (from + 1) mid (to + 1) (widen_in x (from + 1) mid (from + 1) mid (omega arith) (omega arith) o_s1) (beside_in y z mid mid2 (to + 1) (widen_in y mid mid2 mid mid2 (omega arith) (omega arith) o_s2) (widen_in z (mid2 + 1) to mid2 (to + 1) (omega arith) (omega arith) o_s4)))

pub in_type_switch : (x : Forest) (y : Forest) (z : Forest) (from : ℕ) (mid : ℕ) (mid2 : ℕ) (to : ℕ) → Lies x (from + 1) mid → Lies y mid mid2 → Lies z (mid2 + 1) to → Lies (one nodes.TypeSwitch from (to + 1) (beside x (beside y z))) from (to + 1)
in_type_switch x y z from mid mid2 to o_s1 o_s2 o_s4 =
    let le_s1 = lies_le x (from + 1) mid o_s1 in
    let le_s2 = lies_le y mid mid2 o_s2 in
    let le_s4 = lies_le z (mid2 + 1) to o_s4 in
    one_in nodes.TypeSwitch from (to + 1) from (to + 1) (beside x (beside y z)) (omega arith) (omega arith) (omega arith) (beside_in x (beside y z) from mid (to + 1) (widen_in x (from + 1) mid from mid (omega arith) (omega arith) o_s1) (beside_in y z mid mid2 (to + 1) (widen_in y mid mid2 mid mid2 (omega arith) (omega arith) o_s2) (widen_in z (mid2 + 1) to mid2 (to + 1) (omega arith) (omega arith) o_s4))) (λ _. beside_in x (beside y z) (from + 1) mid (to + 1) (widen_in x (from + 1) mid (from + 1) mid (omega arith) (omega arith) o_s1) (beside_in y z mid mid2 (to + 1) (widen_in y mid mid2 mid mid2 (omega arith) (omega arith) o_s2) (widen_in z (mid2 + 1) to mid2 (to + 1) (omega arith) (omega arith) o_s4)))

pub in_no_tag_expr : (from : ℕ) → Lies leaf from from
in_no_tag_expr from =
    none_in from from (omega arith)

pub in_tag_expr : (x : Forest) (from : ℕ) (to : ℕ) → Lies x from to → Lies x from to
in_tag_expr x from to o_s0 =
    let le_s0 = lies_le x from to o_s0 in
    widen_in x from to from to (omega arith) (omega arith) o_s0

pub in_guard : (x : Forest) (from : ℕ) (to : ℕ) → Lies x from to → Lies (one nodes.Guard from (to + 4) x) from (to + 4)
in_guard x from to o_s0 =
    let le_s0 = lies_le x from to o_s0 in
    one_in nodes.Guard from (to + 4) from (to + 4) x (omega arith) (omega arith) (omega arith) (widen_in x from to from (to + 4) (omega arith) (omega arith) o_s0) (λ e. never e)

pub in_named_guard : (x : Forest) (from : ℕ) (to : ℕ) → Lies x (from + 2) to → Lies (one nodes.NamedGuard from (to + 4) (beside (one nodes.DeclName from (from + 1) leaf) (one nodes.Guard (from + 2) (to + 4) x))) from (to + 4)
in_named_guard x from to o_s2 =
    let le_s2 = lies_le x (from + 2) to o_s2 in
    one_in nodes.NamedGuard from (to + 4) from (to + 4) (beside (one nodes.DeclName from (from + 1) leaf) (one nodes.Guard (from + 2) (to + 4) x)) (omega arith) (omega arith) (omega arith) (beside_in (one nodes.DeclName from (from + 1) leaf) (one nodes.Guard (from + 2) (to + 4) x) from (from + 1) (to + 4) (one_in nodes.DeclName from (from + 1) from (from + 1) leaf (omega arith) (omega arith) (omega arith) (none_in from (from + 1) (omega arith)) (λ e. never e)) (one_in nodes.Guard (from + 2) (to + 4) (from + 1) (to + 4) x (omega arith) (omega arith) (omega arith) (widen_in x (from + 2) to (from + 2) (to + 4) (omega arith) (omega arith) o_s2) (λ e. never e))) (λ e. never e)

pub in_no_case : (from : ℕ) → Lies leaf from from
in_no_case from =
    none_in from from (omega arith)

pub in_one_case : (x : Forest) (y : Forest) (from : ℕ) (mid : ℕ) (to : ℕ) → Lies x from mid → Lies y mid to → Lies (beside x y) from to
in_one_case x y from mid to o_s0 o_s1 =
    let le_s0 = lies_le x from mid o_s0 in
    let le_s1 = lies_le y mid to o_s1 in
    beside_in x y from mid to (widen_in x from mid from mid (omega arith) (omega arith) o_s0) (widen_in y mid to mid to (omega arith) (omega arith) o_s1)

pub in_case : (x : Forest) (y : Forest) (from : ℕ) (mid : ℕ) (to : ℕ) → Lies x (from + 1) mid → Lies y (mid + 1) to → Lies (one nodes.Case from to (beside (one nodes.Values (from + 1) mid x) y)) from to
in_case x y from mid to o_s1 o_s3 =
    let le_s1 = lies_le x (from + 1) mid o_s1 in
    let le_s3 = lies_le y (mid + 1) to o_s3 in
    one_in nodes.Case from to from to (beside (one nodes.Values (from + 1) mid x) y) (omega arith) (omega arith) (omega arith) (beside_in (one nodes.Values (from + 1) mid x) y from mid to (one_in nodes.Values (from + 1) mid from mid x (omega arith) (omega arith) (omega arith) (widen_in x (from + 1) mid (from + 1) mid (omega arith) (omega arith) o_s1) (λ e. never e)) (widen_in y (mid + 1) to mid to (omega arith) (omega arith) o_s3)) (λ _. beside_in (one nodes.Values (from + 1) mid x) y (from + 1) mid to (one_in nodes.Values (from + 1) mid (from + 1) mid x (omega arith) (omega arith) (omega arith) (widen_in x (from + 1) mid (from + 1) mid (omega arith) (omega arith) o_s1) (λ e. never e)) (widen_in y (mid + 1) to mid to (omega arith) (omega arith) o_s3))

pub in_default_case : (x : Forest) (from : ℕ) (to : ℕ) → Lies x (from + 2) to → Lies (one nodes.Default from to x) from to
in_default_case x from to o_s2 =
    let le_s2 = lies_le x (from + 2) to o_s2 in
    one_in nodes.Default from to from to x (omega arith) (omega arith) (omega arith) (widen_in x (from + 2) to from to (omega arith) (omega arith) o_s2) (λ _. widen_in x (from + 2) to (from + 1) to (omega arith) (omega arith) o_s2)

pub in_select : (x : Forest) (from : ℕ) (to : ℕ) → Lies x (from + 2) to → Lies (one nodes.Select from (to + 1) x) from (to + 1)
in_select x from to o_s2 =
    let le_s2 = lies_le x (from + 2) to o_s2 in
    one_in nodes.Select from (to + 1) from (to + 1) x (omega arith) (omega arith) (omega arith) (widen_in x (from + 2) to from (to + 1) (omega arith) (omega arith) o_s2) (λ e. never e)

pub in_no_comm : (from : ℕ) → Lies leaf from from
in_no_comm from =
    none_in from from (omega arith)

pub in_one_comm : (x : Forest) (y : Forest) (from : ℕ) (mid : ℕ) (to : ℕ) → Lies x from mid → Lies y mid to → Lies (beside x y) from to
in_one_comm x y from mid to o_s0 o_s1 =
    let le_s0 = lies_le x from mid o_s0 in
    let le_s1 = lies_le y mid to o_s1 in
    beside_in x y from mid to (widen_in x from mid from mid (omega arith) (omega arith) o_s0) (widen_in y mid to mid to (omega arith) (omega arith) o_s1)

pub in_send_comm : (x : Forest) (y : Forest) (z : Forest) (from : ℕ) (mid : ℕ) (mid2 : ℕ) (to : ℕ) → Lies x (from + 1) mid → Lies y (mid + 1) mid2 → Lies z (mid2 + 1) to → Lies (one nodes.SendCase from to (beside x (beside y z))) from to
in_send_comm x y z from mid mid2 to o_s1 o_s3 o_s5 =
    let le_s1 = lies_le x (from + 1) mid o_s1 in
    let le_s3 = lies_le y (mid + 1) mid2 o_s3 in
    let le_s5 = lies_le z (mid2 + 1) to o_s5 in
    one_in nodes.SendCase from to from to (beside x (beside y z)) (omega arith) (omega arith) (omega arith) (beside_in x (beside y z) from mid to (widen_in x (from + 1) mid from mid (omega arith) (omega arith) o_s1) (beside_in y z mid mid2 to (widen_in y (mid + 1) mid2 mid mid2 (omega arith) (omega arith) o_s3) (widen_in z (mid2 + 1) to mid2 to (omega arith) (omega arith) o_s5))) (λ _. beside_in x (beside y z) (from + 1) mid to (widen_in x (from + 1) mid (from + 1) mid (omega arith) (omega arith) o_s1) (beside_in y z mid mid2 to (widen_in y (mid + 1) mid2 mid mid2 (omega arith) (omega arith) o_s3) (widen_in z (mid2 + 1) to mid2 to (omega arith) (omega arith) o_s5)))

pub in_assign_comm : (x : Forest) (y : Forest) (z : Forest) (from : ℕ) (mid : ℕ) (mid2 : ℕ) (to : ℕ) → Lies x (from + 1) mid → Lies y (mid + 1) mid2 → Lies z (mid2 + 1) to → Lies (one nodes.AssignCase from to (beside (one nodes.Exprs (from + 1) mid x) (beside y z))) from to
in_assign_comm x y z from mid mid2 to o_s1 o_s3 o_s5 =
    let le_s1 = lies_le x (from + 1) mid o_s1 in
    let le_s3 = lies_le y (mid + 1) mid2 o_s3 in
    let le_s5 = lies_le z (mid2 + 1) to o_s5 in
    one_in nodes.AssignCase from to from to (beside (one nodes.Exprs (from + 1) mid x) (beside y z)) (omega arith) (omega arith) (omega arith) (beside_in (one nodes.Exprs (from + 1) mid x) (beside y z) from mid to (one_in nodes.Exprs (from + 1) mid from mid x (omega arith) (omega arith) (omega arith) (widen_in x (from + 1) mid (from + 1) mid (omega arith) (omega arith) o_s1) (λ e. never e)) (beside_in y z mid mid2 to (widen_in y (mid + 1) mid2 mid mid2 (omega arith) (omega arith) o_s3) (widen_in z (mid2 + 1) to mid2 to (omega arith) (omega arith) o_s5))) (λ _. beside_in (one nodes.Exprs (from + 1) mid x) (beside y z) (from + 1) mid to (one_in nodes.Exprs (from + 1) mid (from + 1) mid x (omega arith) (omega arith) (omega arith) (widen_in x (from + 1) mid (from + 1) mid (omega arith) (omega arith) o_s1) (λ e. never e)) (beside_in y z mid mid2 to (widen_in y (mid + 1) mid2 mid mid2 (omega arith) (omega arith) o_s3) (widen_in z (mid2 + 1) to mid2 to (omega arith) (omega arith) o_s5)))

pub in_define_comm : (x : Forest) (y : Forest) (z : Forest) (from : ℕ) (mid : ℕ) (mid2 : ℕ) (to : ℕ) → Lies x (from + 1) mid → Lies y (mid + 1) mid2 → Lies z (mid2 + 1) to → Lies (one nodes.DefineCase from to (beside (one nodes.Exprs (from + 1) mid x) (beside y z))) from to
in_define_comm x y z from mid mid2 to o_s1 o_s3 o_s5 =
    let le_s1 = lies_le x (from + 1) mid o_s1 in
    let le_s3 = lies_le y (mid + 1) mid2 o_s3 in
    let le_s5 = lies_le z (mid2 + 1) to o_s5 in
    one_in nodes.DefineCase from to from to (beside (one nodes.Exprs (from + 1) mid x) (beside y z)) (omega arith) (omega arith) (omega arith) (beside_in (one nodes.Exprs (from + 1) mid x) (beside y z) from mid to (one_in nodes.Exprs (from + 1) mid from mid x (omega arith) (omega arith) (omega arith) (widen_in x (from + 1) mid (from + 1) mid (omega arith) (omega arith) o_s1) (λ e. never e)) (beside_in y z mid mid2 to (widen_in y (mid + 1) mid2 mid mid2 (omega arith) (omega arith) o_s3) (widen_in z (mid2 + 1) to mid2 to (omega arith) (omega arith) o_s5))) (λ _. beside_in (one nodes.Exprs (from + 1) mid x) (beside y z) (from + 1) mid to (one_in nodes.Exprs (from + 1) mid (from + 1) mid x (omega arith) (omega arith) (omega arith) (widen_in x (from + 1) mid (from + 1) mid (omega arith) (omega arith) o_s1) (λ e. never e)) (beside_in y z mid mid2 to (widen_in y (mid + 1) mid2 mid mid2 (omega arith) (omega arith) o_s3) (widen_in z (mid2 + 1) to mid2 to (omega arith) (omega arith) o_s5)))

pub in_receive_comm : (x : Forest) (y : Forest) (from : ℕ) (mid : ℕ) (to : ℕ) → Lies x (from + 1) mid → Lies y (mid + 1) to → Lies (one nodes.ReceiveCase from to (beside x y)) from to
in_receive_comm x y from mid to o_s1 o_s3 =
    let le_s1 = lies_le x (from + 1) mid o_s1 in
    let le_s3 = lies_le y (mid + 1) to o_s3 in
    one_in nodes.ReceiveCase from to from to (beside x y) (omega arith) (omega arith) (omega arith) (beside_in x y from mid to (widen_in x (from + 1) mid from mid (omega arith) (omega arith) o_s1) (widen_in y (mid + 1) to mid to (omega arith) (omega arith) o_s3)) (λ _. beside_in x y (from + 1) mid to (widen_in x (from + 1) mid (from + 1) mid (omega arith) (omega arith) o_s1) (widen_in y (mid + 1) to mid to (omega arith) (omega arith) o_s3))

pub in_default_comm : (x : Forest) (from : ℕ) (to : ℕ) → Lies x (from + 2) to → Lies (one nodes.Default from to x) from to
in_default_comm x from to o_s2 =
    let le_s2 = lies_le x (from + 2) to o_s2 in
    one_in nodes.Default from to from to x (omega arith) (omega arith) (omega arith) (widen_in x (from + 2) to from to (omega arith) (omega arith) o_s2) (λ _. widen_in x (from + 2) to (from + 1) to (omega arith) (omega arith) o_s2)

pub in_while_loop : (x : Forest) (y : Forest) (from : ℕ) (mid : ℕ) (to : ℕ) → Lies x (from + 1) mid → Lies y mid to → Lies (one nodes.While from to (beside x y)) from to
in_while_loop x y from mid to o_s1 o_s2 =
    let le_s1 = lies_le x (from + 1) mid o_s1 in
    let le_s2 = lies_le y mid to o_s2 in
    one_in nodes.While from to from to (beside x y) (omega arith) (omega arith) (omega arith) (beside_in x y from mid to (widen_in x (from + 1) mid from mid (omega arith) (omega arith) o_s1) (widen_in y mid to mid to (omega arith) (omega arith) o_s2)) (λ _. beside_in x y (from + 1) mid to (widen_in x (from + 1) mid (from + 1) mid (omega arith) (omega arith) o_s1) (widen_in y mid to mid to (omega arith) (omega arith) o_s2))

pub in_for_loop : (x : Forest) (y : Forest) (z : Forest) (w : Forest) (from : ℕ) (mid : ℕ) (mid2 : ℕ) (mid3 : ℕ) (to : ℕ) → Lies x (from + 1) mid → Lies y (mid + 1) mid2 → Lies z (mid2 + 1) mid3 → Lies w mid3 to → Lies (one nodes.For from to (beside (one nodes.Init (from + 1) mid x) (beside y (beside z w)))) from to
in_for_loop x y z w from mid mid2 mid3 to o_s1 o_s3 o_s5 o_s6 =
    let le_s1 = lies_le x (from + 1) mid o_s1 in
    let le_s3 = lies_le y (mid + 1) mid2 o_s3 in
    let le_s5 = lies_le z (mid2 + 1) mid3 o_s5 in
    let le_s6 = lies_le w mid3 to o_s6 in
    one_in nodes.For from to from to (beside (one nodes.Init (from + 1) mid x) (beside y (beside z w))) (omega arith) (omega arith) (omega arith) (beside_in (one nodes.Init (from + 1) mid x) (beside y (beside z w)) from mid to (one_in nodes.Init (from + 1) mid from mid x (omega arith) (omega arith) (omega arith) (widen_in x (from + 1) mid (from + 1) mid (omega arith) (omega arith) o_s1) (λ e. never e)) (beside_in y (beside z w) mid mid2 to (widen_in y (mid + 1) mid2 mid mid2 (omega arith) (omega arith) o_s3) (beside_in z w mid2 mid3 to (widen_in z (mid2 + 1) mid3 mid2 mid3 (omega arith) (omega arith) o_s5) (widen_in w mid3 to mid3 to (omega arith) (omega arith) o_s6)))) (λ _. beside_in (one nodes.Init (from + 1) mid x) (beside y (beside z w)) (from + 1) mid to (one_in nodes.Init (from + 1) mid (from + 1) mid x (omega arith) (omega arith) (omega arith) (widen_in x (from + 1) mid (from + 1) mid (omega arith) (omega arith) o_s1) (λ e. never e)) (beside_in y (beside z w) mid mid2 to (widen_in y (mid + 1) mid2 mid mid2 (omega arith) (omega arith) o_s3) (beside_in z w mid2 mid3 to (widen_in z (mid2 + 1) mid3 mid2 mid3 (omega arith) (omega arith) o_s5) (widen_in w mid3 to mid3 to (omega arith) (omega arith) o_s6))))

pub in_for_empty : (x : Forest) (y : Forest) (z : Forest) (from : ℕ) (mid : ℕ) (mid2 : ℕ) (to : ℕ) → Lies x (from + 2) mid → Lies y (mid + 1) mid2 → Lies z mid2 to → Lies (one nodes.For from to (beside (one nodes.Init (from + 1) (from + 1) (one nodes.Empty (from + 1) (from + 1) leaf)) (beside x (beside y z)))) from to
in_for_empty x y z from mid mid2 to o_s2 o_s4 o_s5 =
    let le_s2 = lies_le x (from + 2) mid o_s2 in
    let le_s4 = lies_le y (mid + 1) mid2 o_s4 in
    let le_s5 = lies_le z mid2 to o_s5 in
    one_in nodes.For from to from to (beside (one nodes.Init (from + 1) (from + 1) (one nodes.Empty (from + 1) (from + 1) leaf)) (beside x (beside y z))) (omega arith) (omega arith) (omega arith) (beside_in (one nodes.Init (from + 1) (from + 1) (one nodes.Empty (from + 1) (from + 1) leaf)) (beside x (beside y z)) from (from + 1) to (one_in nodes.Init (from + 1) (from + 1) from (from + 1) (one nodes.Empty (from + 1) (from + 1) leaf) (omega arith) (omega arith) (omega arith) (one_in nodes.Empty (from + 1) (from + 1) (from + 1) (from + 1) leaf (omega arith) (omega arith) (omega arith) (none_in (from + 1) (from + 1) (omega arith)) (λ e. never e)) (λ e. never e)) (beside_in x (beside y z) (from + 1) mid to (widen_in x (from + 2) mid (from + 1) mid (omega arith) (omega arith) o_s2) (beside_in y z mid mid2 to (widen_in y (mid + 1) mid2 mid mid2 (omega arith) (omega arith) o_s4) (widen_in z mid2 to mid2 to (omega arith) (omega arith) o_s5)))) (λ _. beside_in (one nodes.Init (from + 1) (from + 1) (one nodes.Empty (from + 1) (from + 1) leaf)) (beside x (beside y z)) (from + 1) (from + 1) to (one_in nodes.Init (from + 1) (from + 1) (from + 1) (from + 1) (one nodes.Empty (from + 1) (from + 1) leaf) (omega arith) (omega arith) (omega arith) (one_in nodes.Empty (from + 1) (from + 1) (from + 1) (from + 1) leaf (omega arith) (omega arith) (omega arith) (none_in (from + 1) (from + 1) (omega arith)) (λ e. never e)) (λ e. never e)) (beside_in x (beside y z) (from + 1) mid to (widen_in x (from + 2) mid (from + 1) mid (omega arith) (omega arith) o_s2) (beside_in y z mid mid2 to (widen_in y (mid + 1) mid2 mid mid2 (omega arith) (omega arith) o_s4) (widen_in z mid2 to mid2 to (omega arith) (omega arith) o_s5))))

pub in_no_condition : (from : ℕ) → Lies leaf from from
in_no_condition from =
    none_in from from (omega arith)

pub in_a_condition : (x : Forest) (from : ℕ) (to : ℕ) → Lies x from to → Lies x from to
in_a_condition x from to o_s0 =
    let le_s0 = lies_le x from to o_s0 in
    widen_in x from to from to (omega arith) (omega arith) o_s0

pub in_empty_post : (from : ℕ) → Lies (one nodes.Post from from (one nodes.Empty from from leaf)) from from
in_empty_post from =
    one_in nodes.Post from from from from (one nodes.Empty from from leaf) (omega arith) (omega arith) (omega arith) (one_in nodes.Empty from from from from leaf (omega arith) (omega arith) (omega arith) (none_in from from (omega arith)) (λ e. never e)) (λ e. never e)

pub in_a_post : (x : Forest) (from : ℕ) (to : ℕ) → Lies x from to → Lies (one nodes.Post from to x) from to
in_a_post x from to o_s0 =
    let le_s0 = lies_le x from to o_s0 in
    one_in nodes.Post from to from to x (omega arith) (omega arith) (omega arith) (widen_in x from to from to (omega arith) (omega arith) o_s0) (λ e. never e)

pub in_range_loop : (x : Forest) (y : Forest) (from : ℕ) (mid : ℕ) (to : ℕ) → Lies x (from + 2) mid → Lies y mid to → Lies (one nodes.Range from to (beside x y)) from to
in_range_loop x y from mid to o_s2 o_s3 =
    let le_s2 = lies_le x (from + 2) mid o_s2 in
    let le_s3 = lies_le y mid to o_s3 in
    one_in nodes.Range from to from to (beside x y) (omega arith) (omega arith) (omega arith) (beside_in x y from mid to (widen_in x (from + 2) mid from mid (omega arith) (omega arith) o_s2) (widen_in y mid to mid to (omega arith) (omega arith) o_s3)) (λ _. beside_in x y (from + 1) mid to (widen_in x (from + 2) mid (from + 1) mid (omega arith) (omega arith) o_s2) (widen_in y mid to mid to (omega arith) (omega arith) o_s3))

pub in_assign_range : (x : Forest) (y : Forest) (z : Forest) (from : ℕ) (mid : ℕ) (mid2 : ℕ) (to : ℕ) → Lies x (from + 1) mid → Lies y (mid + 2) mid2 → Lies z mid2 to → Lies (one nodes.AssignRange from to (beside (one nodes.Exprs (from + 1) mid x) (beside y z))) from to
in_assign_range x y z from mid mid2 to o_s1 o_s4 o_s5 =
    let le_s1 = lies_le x (from + 1) mid o_s1 in
    let le_s4 = lies_le y (mid + 2) mid2 o_s4 in
    let le_s5 = lies_le z mid2 to o_s5 in
    one_in nodes.AssignRange from to from to (beside (one nodes.Exprs (from + 1) mid x) (beside y z)) (omega arith) (omega arith) (omega arith) (beside_in (one nodes.Exprs (from + 1) mid x) (beside y z) from mid to (one_in nodes.Exprs (from + 1) mid from mid x (omega arith) (omega arith) (omega arith) (widen_in x (from + 1) mid (from + 1) mid (omega arith) (omega arith) o_s1) (λ e. never e)) (beside_in y z mid mid2 to (widen_in y (mid + 2) mid2 mid mid2 (omega arith) (omega arith) o_s4) (widen_in z mid2 to mid2 to (omega arith) (omega arith) o_s5))) (λ _. beside_in (one nodes.Exprs (from + 1) mid x) (beside y z) (from + 1) mid to (one_in nodes.Exprs (from + 1) mid (from + 1) mid x (omega arith) (omega arith) (omega arith) (widen_in x (from + 1) mid (from + 1) mid (omega arith) (omega arith) o_s1) (λ e. never e)) (beside_in y z mid mid2 to (widen_in y (mid + 2) mid2 mid mid2 (omega arith) (omega arith) o_s4) (widen_in z mid2 to mid2 to (omega arith) (omega arith) o_s5)))

pub in_define_range : (x : Forest) (y : Forest) (z : Forest) (from : ℕ) (mid : ℕ) (mid2 : ℕ) (to : ℕ) → Lies x (from + 1) mid → Lies y (mid + 2) mid2 → Lies z mid2 to → Lies (one nodes.DefineRange from to (beside (one nodes.Exprs (from + 1) mid x) (beside y z))) from to
in_define_range x y z from mid mid2 to o_s1 o_s4 o_s5 =
    let le_s1 = lies_le x (from + 1) mid o_s1 in
    let le_s4 = lies_le y (mid + 2) mid2 o_s4 in
    let le_s5 = lies_le z mid2 to o_s5 in
    one_in nodes.DefineRange from to from to (beside (one nodes.Exprs (from + 1) mid x) (beside y z)) (omega arith) (omega arith) (omega arith) (beside_in (one nodes.Exprs (from + 1) mid x) (beside y z) from mid to (one_in nodes.Exprs (from + 1) mid from mid x (omega arith) (omega arith) (omega arith) (widen_in x (from + 1) mid (from + 1) mid (omega arith) (omega arith) o_s1) (λ e. never e)) (beside_in y z mid mid2 to (widen_in y (mid + 2) mid2 mid mid2 (omega arith) (omega arith) o_s4) (widen_in z mid2 to mid2 to (omega arith) (omega arith) o_s5))) (λ _. beside_in (one nodes.Exprs (from + 1) mid x) (beside y z) (from + 1) mid to (one_in nodes.Exprs (from + 1) mid (from + 1) mid x (omega arith) (omega arith) (omega arith) (widen_in x (from + 1) mid (from + 1) mid (omega arith) (omega arith) o_s1) (λ e. never e)) (beside_in y z mid mid2 to (widen_in y (mid + 2) mid2 mid mid2 (omega arith) (omega arith) o_s4) (widen_in z mid2 to mid2 to (omega arith) (omega arith) o_s5)))
