-- The nodes of expressions lie in order.
use Rattle.std.proofs.Common.{ℕ, ◌+◌, ◌≤◌, arith}
use Rattle.argot_tree.specs.declared.node_kind.NodeKind.{NodeKind}
use Rattle.argot_tree.specs.declared.node_kind.NodeKind.TheVariants as nodes
use Rattle.argot_tree.specs.Forests.{Forest, leaf, beside, one}
use Rattle.argot_names_rules.proofs.Lying.{Lies, lies_le, none_in, widen_in, beside_in, one_in, never}

pub in_unary_level : (x : Forest) (from : ℕ) (to : ℕ) → Lies x from to → Lies x from to
in_unary_level x from to o_s0 =
    let le_s0 = lies_le x from to o_s0 in
    widen_in x from to from to (omega arith) (omega arith) o_s0

pub in_binary : (x : Forest) (y : Forest) (from : ℕ) (mid : ℕ) (to : ℕ) → Lies x from mid → Lies y (mid + 1) to → Lies (one nodes.Binary from to (beside x y)) from to
in_binary x y from mid to o_s2 o_s3 =
    let le_s2 = lies_le x from mid o_s2 in
    let le_s3 = lies_le y (mid + 1) to o_s3 in
    one_in nodes.Binary from to from to (beside x y) (omega arith) (omega arith) (omega arith) (beside_in x y from mid to (widen_in x from mid from mid (omega arith) (omega arith) o_s2) (widen_in y (mid + 1) to mid to (omega arith) (omega arith) o_s3)) (λ e. never e)

pub in_unary : (kind : NodeKind) (x : Forest) (from : ℕ) (to : ℕ) → Lies x (from + 1) to → Lies (one kind from to x) from to
in_unary kind x from to o_s1 =
    let le_s1 = lies_le x (from + 1) to o_s1 in
    one_in kind from to from to x (omega arith) (omega arith) (omega arith) (widen_in x (from + 1) to from to (omega arith) (omega arith) o_s1) (λ _. widen_in x (from + 1) to (from + 1) to (omega arith) (omega arith) o_s1)

pub in_primary : (x : Forest) (from : ℕ) (to : ℕ) → Lies x from to → Lies x from to
in_primary x from to o_s0 =
    let le_s0 = lies_le x from to o_s0 in
    widen_in x from to from to (omega arith) (omega arith) o_s0

pub in_operand : (x : Forest) (from : ℕ) (to : ℕ) → Lies x from to → Lies x from to
in_operand x from to o_s0 =
    let le_s0 = lies_le x from to o_s0 in
    widen_in x from to from to (omega arith) (omega arith) o_s0

pub in_literal : (from : ℕ) → Lies (one nodes.Literal from (from + 1) leaf) from (from + 1)
in_literal from =
    one_in nodes.Literal from (from + 1) from (from + 1) leaf (omega arith) (omega arith) (omega arith) (none_in from (from + 1) (omega arith)) (λ e. never e)

pub in_name_use : (from : ℕ) → Lies (one nodes.NameUse from (from + 1) leaf) from (from + 1)
in_name_use from =
    one_in nodes.NameUse from (from + 1) from (from + 1) leaf (omega arith) (omega arith) (omega arith) (none_in from (from + 1) (omega arith)) (λ e. never e)

pub in_parens : (x : Forest) (from : ℕ) (to : ℕ) → Lies x (from + 1) to → Lies (one nodes.Parens from (to + 1) x) from (to + 1)
in_parens x from to o_s1 =
    let le_s1 = lies_le x (from + 1) to o_s1 in
    one_in nodes.Parens from (to + 1) from (to + 1) x (omega arith) (omega arith) (omega arith) (widen_in x (from + 1) to from (to + 1) (omega arith) (omega arith) o_s1) (λ e. never e)

pub in_func_literal : (x : Forest) (y : Forest) (from : ℕ) (mid : ℕ) (to : ℕ) → Lies x (from + 1) mid → Lies y mid to → Lies (one nodes.FuncLiteral from to (beside x y)) from to
in_func_literal x y from mid to o_s1 o_s2 =
    let le_s1 = lies_le x (from + 1) mid o_s1 in
    let le_s2 = lies_le y mid to o_s2 in
    one_in nodes.FuncLiteral from to from to (beside x y) (omega arith) (omega arith) (omega arith) (beside_in x y from mid to (widen_in x (from + 1) mid from mid (omega arith) (omega arith) o_s1) (widen_in y mid to mid to (omega arith) (omega arith) o_s2)) (λ e. never e)

pub in_composite : (x : Forest) (y : Forest) (from : ℕ) (mid : ℕ) (to : ℕ) → Lies x from mid → Lies y mid to → Lies (one nodes.Composite from to (beside x y)) from to
in_composite x y from mid to o_s1 o_s2 =
    let le_s1 = lies_le x from mid o_s1 in
    let le_s2 = lies_le y mid to o_s2 in
    one_in nodes.Composite from to from to (beside x y) (omega arith) (omega arith) (omega arith) (beside_in x y from mid to (widen_in x from mid from mid (omega arith) (omega arith) o_s1) (widen_in y mid to mid to (omega arith) (omega arith) o_s2)) (λ e. never e)

pub in_open_composite : (x : Forest) (y : Forest) (from : ℕ) (mid : ℕ) (to : ℕ) → Lies x (from + 3) mid → Lies y mid to → Lies (one nodes.Composite from to (beside (one nodes.OpenArrayType from mid x) y)) from to
in_open_composite x y from mid to o_s3 o_s4 =
    let le_s3 = lies_le x (from + 3) mid o_s3 in
    let le_s4 = lies_le y mid to o_s4 in
    one_in nodes.Composite from to from to (beside (one nodes.OpenArrayType from mid x) y) (omega arith) (omega arith) (omega arith) (beside_in (one nodes.OpenArrayType from mid x) y from mid to (one_in nodes.OpenArrayType from mid from mid x (omega arith) (omega arith) (omega arith) (widen_in x (from + 3) mid from mid (omega arith) (omega arith) o_s3) (λ e. never e)) (widen_in y mid to mid to (omega arith) (omega arith) o_s4)) (λ e. never e)

pub in_bare_composite : (x : Forest) (y : Forest) (from : ℕ) (mid : ℕ) (to : ℕ) → Lies x from mid → Lies y mid to → Lies (one nodes.Composite from to (beside x y)) from to
in_bare_composite x y from mid to o_s0 o_s1 =
    let le_s0 = lies_le x from mid o_s0 in
    let le_s1 = lies_le y mid to o_s1 in
    one_in nodes.Composite from to from to (beside x y) (omega arith) (omega arith) (omega arith) (beside_in x y from mid to (widen_in x from mid from mid (omega arith) (omega arith) o_s0) (widen_in y mid to mid to (omega arith) (omega arith) o_s1)) (λ e. never e)

pub in_conversion : (x : Forest) (y : Forest) (from : ℕ) (mid : ℕ) (mid2 : ℕ) (to : ℕ) → Lies x from mid → Lies y (mid + 1) mid2 → mid2 ≤ to → Lies (one nodes.Conversion from (to + 1) (beside x y)) from (to + 1)
in_conversion x y from mid mid2 to o_s1 o_s3 c_s4 =
    let le_s1 = lies_le x from mid o_s1 in
    let le_s3 = lies_le y (mid + 1) mid2 o_s3 in
    one_in nodes.Conversion from (to + 1) from (to + 1) (beside x y) (omega arith) (omega arith) (omega arith) (beside_in x y from mid (to + 1) (widen_in x from mid from mid (omega arith) (omega arith) o_s1) (widen_in y (mid + 1) mid2 mid (to + 1) (omega arith) (omega arith) o_s3)) (λ e. never e)

pub in_selector : (x : Forest) (from : ℕ) (to : ℕ) → Lies x from to → Lies (one nodes.Selector from (to + 2) (beside x (one nodes.SelectedName (to + 1) (to + 2) leaf))) from (to + 2)
in_selector x from to o_s0 =
    let le_s0 = lies_le x from to o_s0 in
    one_in nodes.Selector from (to + 2) from (to + 2) (beside x (one nodes.SelectedName (to + 1) (to + 2) leaf)) (omega arith) (omega arith) (omega arith) (beside_in x (one nodes.SelectedName (to + 1) (to + 2) leaf) from to (to + 2) (widen_in x from to from to (omega arith) (omega arith) o_s0) (one_in nodes.SelectedName (to + 1) (to + 2) to (to + 2) leaf (omega arith) (omega arith) (omega arith) (none_in (to + 1) (to + 2) (omega arith)) (λ e. never e))) (λ e. never e)

pub in_index : (x : Forest) (y : Forest) (from : ℕ) (mid : ℕ) (to : ℕ) → Lies x from mid → Lies y (mid + 1) to → Lies (one nodes.Index from (to + 1) (beside x y)) from (to + 1)
in_index x y from mid to o_s0 o_s2 =
    let le_s0 = lies_le x from mid o_s0 in
    let le_s2 = lies_le y (mid + 1) to o_s2 in
    one_in nodes.Index from (to + 1) from (to + 1) (beside x y) (omega arith) (omega arith) (omega arith) (beside_in x y from mid (to + 1) (widen_in x from mid from mid (omega arith) (omega arith) o_s0) (widen_in y (mid + 1) to mid (to + 1) (omega arith) (omega arith) o_s2)) (λ e. never e)

pub in_slice_all : (x : Forest) (from : ℕ) (to : ℕ) → Lies x from to → Lies (one nodes.SliceAll from (to + 3) x) from (to + 3)
in_slice_all x from to o_s0 =
    let le_s0 = lies_le x from to o_s0 in
    one_in nodes.SliceAll from (to + 3) from (to + 3) x (omega arith) (omega arith) (omega arith) (widen_in x from to from (to + 3) (omega arith) (omega arith) o_s0) (λ e. never e)

pub in_slice_from : (x : Forest) (y : Forest) (from : ℕ) (mid : ℕ) (to : ℕ) → Lies x from mid → Lies y (mid + 1) to → Lies (one nodes.SliceFrom from (to + 2) (beside x y)) from (to + 2)
in_slice_from x y from mid to o_s0 o_s2 =
    let le_s0 = lies_le x from mid o_s0 in
    let le_s2 = lies_le y (mid + 1) to o_s2 in
    one_in nodes.SliceFrom from (to + 2) from (to + 2) (beside x y) (omega arith) (omega arith) (omega arith) (beside_in x y from mid (to + 2) (widen_in x from mid from mid (omega arith) (omega arith) o_s0) (widen_in y (mid + 1) to mid (to + 2) (omega arith) (omega arith) o_s2)) (λ e. never e)

pub in_slice_to : (x : Forest) (y : Forest) (from : ℕ) (mid : ℕ) (to : ℕ) → Lies x from mid → Lies y (mid + 2) to → Lies (one nodes.SliceTo from (to + 1) (beside x y)) from (to + 1)
in_slice_to x y from mid to o_s0 o_s3 =
    let le_s0 = lies_le x from mid o_s0 in
    let le_s3 = lies_le y (mid + 2) to o_s3 in
    one_in nodes.SliceTo from (to + 1) from (to + 1) (beside x y) (omega arith) (omega arith) (omega arith) (beside_in x y from mid (to + 1) (widen_in x from mid from mid (omega arith) (omega arith) o_s0) (widen_in y (mid + 2) to mid (to + 1) (omega arith) (omega arith) o_s3)) (λ e. never e)

pub in_slice_between : (x : Forest) (y : Forest) (z : Forest) (from : ℕ) (mid : ℕ) (mid2 : ℕ) (to : ℕ) → Lies x from mid → Lies y (mid + 1) mid2 → Lies z (mid2 + 1) to → Lies (one nodes.SliceBetween from (to + 1) (beside x (beside y z))) from (to + 1)
in_slice_between x y z from mid mid2 to o_s0 o_s2 o_s4 =
    let le_s0 = lies_le x from mid o_s0 in
    let le_s2 = lies_le y (mid + 1) mid2 o_s2 in
    let le_s4 = lies_le z (mid2 + 1) to o_s4 in
    one_in nodes.SliceBetween from (to + 1) from (to + 1) (beside x (beside y z)) (omega arith) (omega arith) (omega arith) (beside_in x (beside y z) from mid (to + 1) (widen_in x from mid from mid (omega arith) (omega arith) o_s0) (beside_in y z mid mid2 (to + 1) (widen_in y (mid + 1) mid2 mid mid2 (omega arith) (omega arith) o_s2) (widen_in z (mid2 + 1) to mid2 (to + 1) (omega arith) (omega arith) o_s4))) (λ e. never e)

pub in_slice_to_max : (x : Forest) (y : Forest) (z : Forest) (from : ℕ) (mid : ℕ) (mid2 : ℕ) (to : ℕ) → Lies x from mid → Lies y (mid + 2) mid2 → Lies z (mid2 + 1) to → Lies (one nodes.SliceToMax from (to + 1) (beside x (beside y z))) from (to + 1)
in_slice_to_max x y z from mid mid2 to o_s0 o_s3 o_s5 =
    let le_s0 = lies_le x from mid o_s0 in
    let le_s3 = lies_le y (mid + 2) mid2 o_s3 in
    let le_s5 = lies_le z (mid2 + 1) to o_s5 in
    one_in nodes.SliceToMax from (to + 1) from (to + 1) (beside x (beside y z)) (omega arith) (omega arith) (omega arith) (beside_in x (beside y z) from mid (to + 1) (widen_in x from mid from mid (omega arith) (omega arith) o_s0) (beside_in y z mid mid2 (to + 1) (widen_in y (mid + 2) mid2 mid mid2 (omega arith) (omega arith) o_s3) (widen_in z (mid2 + 1) to mid2 (to + 1) (omega arith) (omega arith) o_s5))) (λ e. never e)

pub in_slice_between_max : (x : Forest) (y : Forest) (z : Forest) (w : Forest) (from : ℕ) (mid : ℕ) (mid2 : ℕ) (mid3 : ℕ) (to : ℕ) → Lies x from mid → Lies y (mid + 1) mid2 → Lies z (mid2 + 1) mid3 → Lies w (mid3 + 1) to → Lies (one nodes.SliceBetweenMax from (to + 1) (beside x (beside y (beside z w)))) from (to + 1)
in_slice_between_max x y z w from mid mid2 mid3 to o_s0 o_s2 o_s4 o_s6 =
    let le_s0 = lies_le x from mid o_s0 in
    let le_s2 = lies_le y (mid + 1) mid2 o_s2 in
    let le_s4 = lies_le z (mid2 + 1) mid3 o_s4 in
    let le_s6 = lies_le w (mid3 + 1) to o_s6 in
    one_in nodes.SliceBetweenMax from (to + 1) from (to + 1) (beside x (beside y (beside z w))) (omega arith) (omega arith) (omega arith) (beside_in x (beside y (beside z w)) from mid (to + 1) (widen_in x from mid from mid (omega arith) (omega arith) o_s0) (beside_in y (beside z w) mid mid2 (to + 1) (widen_in y (mid + 1) mid2 mid mid2 (omega arith) (omega arith) o_s2) (beside_in z w mid2 mid3 (to + 1) (widen_in z (mid2 + 1) mid3 mid2 mid3 (omega arith) (omega arith) o_s4) (widen_in w (mid3 + 1) to mid3 (to + 1) (omega arith) (omega arith) o_s6)))) (λ e. never e)

pub in_assertion : (x : Forest) (y : Forest) (from : ℕ) (mid : ℕ) (to : ℕ) → Lies x from mid → Lies y (mid + 2) to → Lies (one nodes.TypeAssertion from (to + 1) (beside x y)) from (to + 1)
in_assertion x y from mid to o_s0 o_s3 =
    let le_s0 = lies_le x from mid o_s0 in
    let le_s3 = lies_le y (mid + 2) to o_s3 in
    one_in nodes.TypeAssertion from (to + 1) from (to + 1) (beside x y) (omega arith) (omega arith) (omega arith) (beside_in x y from mid (to + 1) (widen_in x from mid from mid (omega arith) (omega arith) o_s0) (widen_in y (mid + 2) to mid (to + 1) (omega arith) (omega arith) o_s3)) (λ e. never e)

pub in_call_none : (x : Forest) (from : ℕ) (to : ℕ) → Lies x from to → Lies (one nodes.Call from (to + 2) x) from (to + 2)
in_call_none x from to o_s0 =
    let le_s0 = lies_le x from to o_s0 in
    one_in nodes.Call from (to + 2) from (to + 2) x (omega arith) (omega arith) (omega arith) (widen_in x from to from (to + 2) (omega arith) (omega arith) o_s0) (λ e. never e)

pub in_call : (x : Forest) (y : Forest) (from : ℕ) (mid : ℕ) (mid2 : ℕ) (to : ℕ) → Lies x from mid → Lies y (mid + 1) mid2 → mid2 ≤ to → Lies (one nodes.Call from (to + 1) (beside x y)) from (to + 1)
in_call x y from mid mid2 to o_s0 o_s2 c_s3 =
    let le_s0 = lies_le x from mid o_s0 in
    let le_s2 = lies_le y (mid + 1) mid2 o_s2 in
    one_in nodes.Call from (to + 1) from (to + 1) (beside x y) (omega arith) (omega arith) (omega arith) (beside_in x y from mid (to + 1) (widen_in x from mid from mid (omega arith) (omega arith) o_s0) (widen_in y (mid + 1) mid2 mid (to + 1) (omega arith) (omega arith) o_s2)) (λ e. never e)

pub in_spread_call : (x : Forest) (y : Forest) (from : ℕ) (mid : ℕ) (mid2 : ℕ) (to : ℕ) → Lies x from mid → Lies y (mid + 1) mid2 → mid2 + 1 ≤ to → Lies (one nodes.SpreadCall from (to + 1) (beside x y)) from (to + 1)
in_spread_call x y from mid mid2 to o_s0 o_s2 c_s4 =
    let le_s0 = lies_le x from mid o_s0 in
    let le_s2 = lies_le y (mid + 1) mid2 o_s2 in
    one_in nodes.SpreadCall from (to + 1) from (to + 1) (beside x y) (omega arith) (omega arith) (omega arith) (beside_in x y from mid (to + 1) (widen_in x from mid from mid (omega arith) (omega arith) o_s0) (widen_in y (mid + 1) mid2 mid (to + 1) (omega arith) (omega arith) o_s2)) (λ e. never e)

pub in_last_expr : (x : Forest) (from : ℕ) (to : ℕ) → Lies x from to → Lies x from to
in_last_expr x from to o_s0 =
    let le_s0 = lies_le x from to o_s0 in
    widen_in x from to from to (omega arith) (omega arith) o_s0

pub in_one_expr : (x : Forest) (y : Forest) (from : ℕ) (mid : ℕ) (to : ℕ) → Lies x from mid → Lies y (mid + 1) to → Lies (beside x y) from to
in_one_expr x y from mid to o_s0 o_s2 =
    let le_s0 = lies_le x from mid o_s0 in
    let le_s2 = lies_le y (mid + 1) to o_s2 in
    beside_in x y from mid to (widen_in x from mid from mid (omega arith) (omega arith) o_s0) (widen_in y (mid + 1) to mid to (omega arith) (omega arith) o_s2)

pub in_either_expr : (x : Forest) (from : ℕ) (to : ℕ) → Lies x from to → Lies x from to
in_either_expr x from to o_s0 =
    let le_s0 = lies_le x from to o_s0 in
    widen_in x from to from to (omega arith) (omega arith) o_s0

pub in_either_type : (x : Forest) (from : ℕ) (to : ℕ) → Lies x from to → Lies x from to
in_either_type x from to o_s0 =
    let le_s0 = lies_le x from to o_s0 in
    widen_in x from to from to (omega arith) (omega arith) o_s0

pub in_last_either : (x : Forest) (from : ℕ) (to : ℕ) → Lies x from to → Lies x from to
in_last_either x from to o_s0 =
    let le_s0 = lies_le x from to o_s0 in
    widen_in x from to from to (omega arith) (omega arith) o_s0

pub in_one_either : (x : Forest) (y : Forest) (from : ℕ) (mid : ℕ) (to : ℕ) → Lies x from mid → Lies y (mid + 1) to → Lies (beside x y) from to
in_one_either x y from mid to o_s0 o_s2 =
    let le_s0 = lies_le x from mid o_s0 in
    let le_s2 = lies_le y (mid + 1) to o_s2 in
    beside_in x y from mid to (widen_in x from mid from mid (omega arith) (omega arith) o_s0) (widen_in y (mid + 1) to mid to (omega arith) (omega arith) o_s2)

pub in_no_elems : (from : ℕ) → Lies (one nodes.Elems from (from + 2) leaf) from (from + 2)
in_no_elems from =
    one_in nodes.Elems from (from + 2) from (from + 2) leaf (omega arith) (omega arith) (omega arith) (none_in from (from + 2) (omega arith)) (λ e. never e)

pub in_elems : (x : Forest) (from : ℕ) (mid : ℕ) (to : ℕ) → Lies x (from + 1) mid → mid ≤ to → Lies (one nodes.Elems from (to + 1) x) from (to + 1)
in_elems x from mid to o_s1 c_s2 =
    let le_s1 = lies_le x (from + 1) mid o_s1 in
    one_in nodes.Elems from (to + 1) from (to + 1) x (omega arith) (omega arith) (omega arith) (widen_in x (from + 1) mid from (to + 1) (omega arith) (omega arith) o_s1) (λ e. never e)

pub in_last_item : (x : Forest) (from : ℕ) (to : ℕ) → Lies x from to → Lies x from to
in_last_item x from to o_s0 =
    let le_s0 = lies_le x from to o_s0 in
    widen_in x from to from to (omega arith) (omega arith) o_s0

pub in_one_item : (x : Forest) (y : Forest) (from : ℕ) (mid : ℕ) (to : ℕ) → Lies x from mid → Lies y (mid + 1) to → Lies (beside x y) from to
in_one_item x y from mid to o_s0 o_s2 =
    let le_s0 = lies_le x from mid o_s0 in
    let le_s2 = lies_le y (mid + 1) to o_s2 in
    beside_in x y from mid to (widen_in x from mid from mid (omega arith) (omega arith) o_s0) (widen_in y (mid + 1) to mid to (omega arith) (omega arith) o_s2)

pub in_item : (x : Forest) (from : ℕ) (to : ℕ) → Lies x from to → Lies (one nodes.Item from to x) from to
in_item x from to o_s0 =
    let le_s0 = lies_le x from to o_s0 in
    one_in nodes.Item from to from to x (omega arith) (omega arith) (omega arith) (widen_in x from to from to (omega arith) (omega arith) o_s0) (λ e. never e)

pub in_keyed_item : (x : Forest) (y : Forest) (from : ℕ) (mid : ℕ) (to : ℕ) → Lies x from mid → Lies y (mid + 1) to → Lies (one nodes.KeyedItem from to (beside x y)) from to
in_keyed_item x y from mid to o_s0 o_s2 =
    let le_s0 = lies_le x from mid o_s0 in
    let le_s2 = lies_le y (mid + 1) to o_s2 in
    one_in nodes.KeyedItem from to from to (beside x y) (omega arith) (omega arith) (omega arith) (beside_in x y from mid to (widen_in x from mid from mid (omega arith) (omega arith) o_s0) (widen_in y (mid + 1) to mid to (omega arith) (omega arith) o_s2)) (λ e. never e)

pub in_value_expr : (x : Forest) (from : ℕ) (to : ℕ) → Lies x from to → Lies x from to
in_value_expr x from to o_s0 =
    let le_s0 = lies_le x from to o_s0 in
    widen_in x from to from to (omega arith) (omega arith) o_s0

pub in_value_elems : (x : Forest) (from : ℕ) (to : ℕ) → Lies x from to → Lies x from to
in_value_elems x from to o_s0 =
    let le_s0 = lies_le x from to o_s0 in
    widen_in x from to from to (omega arith) (omega arith) o_s0
