-- The nodes of signatures and types lie in order.
use Rattle.std.proofs.Common.{ℕ, ◌+◌, ◌≤◌, arith}
use Rattle.argot_tree.specs.declared.node_kind.NodeKind.TheVariants as nodes
use Rattle.argot_tree.specs.Forests.{Forest, leaf, beside, one}
use Rattle.argot_names_rules.proofs.Lying.{Lies, lies_le, none_in, widen_in, beside_in, one_in, never}

pub in_no_result : (x : Forest) (from : ℕ) (to : ℕ) → Lies x from to → Lies (one nodes.Signature from to x) from to
in_no_result x from to o_s0 =
    let le_s0 = lies_le x from to o_s0 in
    one_in nodes.Signature from to from to x (omega arith) (omega arith) (omega arith) (widen_in x from to from to (omega arith) (omega arith) o_s0) (λ e. never e)

pub in_results : (x : Forest) (y : Forest) (from : ℕ) (mid : ℕ) (to : ℕ) → Lies x from mid → Lies y mid to → Lies (one nodes.Signature from to (beside x y)) from to
in_results x y from mid to o_s0 o_s1 =
    let le_s0 = lies_le x from mid o_s0 in
    let le_s1 = lies_le y mid to o_s1 in
    one_in nodes.Signature from to from to (beside x y) (omega arith) (omega arith) (omega arith) (beside_in x y from mid to (widen_in x from mid from mid (omega arith) (omega arith) o_s0) (widen_in y mid to mid to (omega arith) (omega arith) o_s1)) (λ e. never e)

pub in_result : (x : Forest) (y : Forest) (from : ℕ) (mid : ℕ) (to : ℕ) → Lies x from mid → Lies y mid to → Lies (one nodes.Signature from to (beside x y)) from to
in_result x y from mid to o_s0 o_s2 =
    let le_s0 = lies_le x from mid o_s0 in
    let le_s2 = lies_le y mid to o_s2 in
    one_in nodes.Signature from to from to (beside x y) (omega arith) (omega arith) (omega arith) (beside_in x y from mid to (widen_in x from mid from mid (omega arith) (omega arith) o_s0) (widen_in y mid to mid to (omega arith) (omega arith) o_s2)) (λ e. never e)

pub in_no_params : (from : ℕ) → Lies (one nodes.Params from (from + 2) leaf) from (from + 2)
in_no_params from =
    one_in nodes.Params from (from + 2) from (from + 2) leaf (omega arith) (omega arith) (omega arith) (none_in from (from + 2) (omega arith)) (λ e. never e)

pub in_params : (x : Forest) (from : ℕ) (mid : ℕ) (to : ℕ) → Lies x (from + 1) mid → mid ≤ to → Lies (one nodes.Params from (to + 1) x) from (to + 1)
in_params x from mid to o_s1 c_s2 =
    let le_s1 = lies_le x (from + 1) mid o_s1 in
    one_in nodes.Params from (to + 1) from (to + 1) x (omega arith) (omega arith) (omega arith) (widen_in x (from + 1) mid from (to + 1) (omega arith) (omega arith) o_s1) (λ e. never e)

pub in_named_params : (x : Forest) (from : ℕ) (mid : ℕ) (to : ℕ) → Lies x (from + 1) mid → mid ≤ to → Lies (one nodes.NamedParams from (to + 1) x) from (to + 1)
in_named_params x from mid to o_s1 c_s2 =
    let le_s1 = lies_le x (from + 1) mid o_s1 in
    one_in nodes.NamedParams from (to + 1) from (to + 1) x (omega arith) (omega arith) (omega arith) (widen_in x (from + 1) mid from (to + 1) (omega arith) (omega arith) o_s1) (λ e. never e)

pub in_last_param : (x : Forest) (from : ℕ) (to : ℕ) → Lies x from to → Lies (one nodes.Param from to x) from to
in_last_param x from to o_s0 =
    let le_s0 = lies_le x from to o_s0 in
    one_in nodes.Param from to from to x (omega arith) (omega arith) (omega arith) (widen_in x from to from to (omega arith) (omega arith) o_s0) (λ e. never e)

pub in_one_param : (x : Forest) (y : Forest) (from : ℕ) (mid : ℕ) (to : ℕ) → Lies x from mid → Lies y (mid + 1) to → Lies (beside (one nodes.Param from mid x) y) from to
in_one_param x y from mid to o_s0 o_s2 =
    let le_s0 = lies_le x from mid o_s0 in
    let le_s2 = lies_le y (mid + 1) to o_s2 in
    beside_in (one nodes.Param from mid x) y from mid to (one_in nodes.Param from mid from mid x (omega arith) (omega arith) (omega arith) (widen_in x from mid from mid (omega arith) (omega arith) o_s0) (λ e. never e)) (widen_in y (mid + 1) to mid to (omega arith) (omega arith) o_s2)

pub in_variadic_param : (x : Forest) (from : ℕ) (to : ℕ) → Lies x (from + 1) to → Lies (one nodes.VariadicParam from to x) from to
in_variadic_param x from to o_s1 =
    let le_s1 = lies_le x (from + 1) to o_s1 in
    one_in nodes.VariadicParam from to from to x (omega arith) (omega arith) (omega arith) (widen_in x (from + 1) to from to (omega arith) (omega arith) o_s1) (λ e. never e)

pub in_last_named : (x : Forest) (from : ℕ) (to : ℕ) → Lies x (from + 1) to → Lies (one nodes.NamedParam from to (beside (one nodes.DeclName from (from + 1) leaf) x)) from to
in_last_named x from to o_s1 =
    let le_s1 = lies_le x (from + 1) to o_s1 in
    one_in nodes.NamedParam from to from to (beside (one nodes.DeclName from (from + 1) leaf) x) (omega arith) (omega arith) (omega arith) (beside_in (one nodes.DeclName from (from + 1) leaf) x from (from + 1) to (one_in nodes.DeclName from (from + 1) from (from + 1) leaf (omega arith) (omega arith) (omega arith) (none_in from (from + 1) (omega arith)) (λ e. never e)) (widen_in x (from + 1) to (from + 1) to (omega arith) (omega arith) o_s1)) (λ e. never e)

pub in_one_named : (x : Forest) (y : Forest) (from : ℕ) (mid : ℕ) (to : ℕ) → Lies x (from + 1) mid → Lies y (mid + 1) to → Lies (beside (one nodes.NamedParam from mid (beside (one nodes.DeclName from (from + 1) leaf) x)) y) from to
in_one_named x y from mid to o_s1 o_s3 =
    let le_s1 = lies_le x (from + 1) mid o_s1 in
    let le_s3 = lies_le y (mid + 1) to o_s3 in
    beside_in (one nodes.NamedParam from mid (beside (one nodes.DeclName from (from + 1) leaf) x)) y from mid to (one_in nodes.NamedParam from mid from mid (beside (one nodes.DeclName from (from + 1) leaf) x) (omega arith) (omega arith) (omega arith) (beside_in (one nodes.DeclName from (from + 1) leaf) x from (from + 1) mid (one_in nodes.DeclName from (from + 1) from (from + 1) leaf (omega arith) (omega arith) (omega arith) (none_in from (from + 1) (omega arith)) (λ e. never e)) (widen_in x (from + 1) mid (from + 1) mid (omega arith) (omega arith) o_s1)) (λ e. never e)) (widen_in y (mid + 1) to mid to (omega arith) (omega arith) o_s3)

pub in_lone_named : (x : Forest) (from : ℕ) (to : ℕ) → Lies x (from + 2) to → Lies (beside (one nodes.LoneParam from (from + 1) (one nodes.DeclName from (from + 1) leaf)) x) from to
in_lone_named x from to o_s2 =
    let le_s2 = lies_le x (from + 2) to o_s2 in
    beside_in (one nodes.LoneParam from (from + 1) (one nodes.DeclName from (from + 1) leaf)) x from (from + 1) to (one_in nodes.LoneParam from (from + 1) from (from + 1) (one nodes.DeclName from (from + 1) leaf) (omega arith) (omega arith) (omega arith) (one_in nodes.DeclName from (from + 1) from (from + 1) leaf (omega arith) (omega arith) (omega arith) (none_in from (from + 1) (omega arith)) (λ e. never e)) (λ e. never e)) (widen_in x (from + 2) to (from + 1) to (omega arith) (omega arith) o_s2)

pub in_variadic_named : (x : Forest) (from : ℕ) (to : ℕ) → Lies x (from + 2) to → Lies (one nodes.NamedVariadic from to (beside (one nodes.DeclName from (from + 1) leaf) x)) from to
in_variadic_named x from to o_s2 =
    let le_s2 = lies_le x (from + 2) to o_s2 in
    one_in nodes.NamedVariadic from to from to (beside (one nodes.DeclName from (from + 1) leaf) x) (omega arith) (omega arith) (omega arith) (beside_in (one nodes.DeclName from (from + 1) leaf) x from (from + 1) to (one_in nodes.DeclName from (from + 1) from (from + 1) leaf (omega arith) (omega arith) (omega arith) (none_in from (from + 1) (omega arith)) (λ e. never e)) (widen_in x (from + 2) to (from + 1) to (omega arith) (omega arith) o_s2)) (λ e. never e)

pub in_type_name : (from : ℕ) → Lies (one nodes.TypeName from (from + 1) leaf) from (from + 1)
in_type_name from =
    one_in nodes.TypeName from (from + 1) from (from + 1) leaf (omega arith) (omega arith) (omega arith) (none_in from (from + 1) (omega arith)) (λ e. never e)

pub in_qualified_type : (from : ℕ) → Lies (one nodes.QualifiedType from (from + 3) leaf) from (from + 3)
in_qualified_type from =
    one_in nodes.QualifiedType from (from + 3) from (from + 3) leaf (omega arith) (omega arith) (omega arith) (none_in from (from + 3) (omega arith)) (λ e. never e)

pub in_type_parens : (x : Forest) (from : ℕ) (to : ℕ) → Lies x (from + 1) to → Lies (one nodes.TypeParens from (to + 1) x) from (to + 1)
in_type_parens x from to o_s1 =
    let le_s1 = lies_le x (from + 1) to o_s1 in
    one_in nodes.TypeParens from (to + 1) from (to + 1) x (omega arith) (omega arith) (omega arith) (widen_in x (from + 1) to from (to + 1) (omega arith) (omega arith) o_s1) (λ e. never e)

pub in_pointer_type : (x : Forest) (from : ℕ) (to : ℕ) → Lies x (from + 1) to → Lies (one nodes.PointerType from to x) from to
in_pointer_type x from to o_s1 =
    let le_s1 = lies_le x (from + 1) to o_s1 in
    one_in nodes.PointerType from to from to x (omega arith) (omega arith) (omega arith) (widen_in x (from + 1) to from to (omega arith) (omega arith) o_s1) (λ e. never e)

pub in_only_pointer : (x : Forest) (from : ℕ) (to : ℕ) → Lies x (from + 1) to → Lies (one nodes.PointerType from to x) from to
in_only_pointer x from to o_s1 =
    let le_s1 = lies_le x (from + 1) to o_s1 in
    one_in nodes.PointerType from to from to x (omega arith) (omega arith) (omega arith) (widen_in x (from + 1) to from to (omega arith) (omega arith) o_s1) (λ e. never e)

pub in_array_type : (x : Forest) (y : Forest) (from : ℕ) (mid : ℕ) (to : ℕ) → Lies x (from + 1) mid → Lies y (mid + 1) to → Lies (one nodes.ArrayType from to (beside x y)) from to
in_array_type x y from mid to o_s1 o_s3 =
    let le_s1 = lies_le x (from + 1) mid o_s1 in
    let le_s3 = lies_le y (mid + 1) to o_s3 in
    one_in nodes.ArrayType from to from to (beside x y) (omega arith) (omega arith) (omega arith) (beside_in x y from mid to (widen_in x (from + 1) mid from mid (omega arith) (omega arith) o_s1) (widen_in y (mid + 1) to mid to (omega arith) (omega arith) o_s3)) (λ e. never e)

pub in_slice_type : (x : Forest) (from : ℕ) (to : ℕ) → Lies x (from + 2) to → Lies (one nodes.SliceType from to x) from to
in_slice_type x from to o_s2 =
    let le_s2 = lies_le x (from + 2) to o_s2 in
    one_in nodes.SliceType from to from to x (omega arith) (omega arith) (omega arith) (widen_in x (from + 2) to from to (omega arith) (omega arith) o_s2) (λ e. never e)

pub in_map_type : (x : Forest) (y : Forest) (from : ℕ) (mid : ℕ) (to : ℕ) → Lies x (from + 2) mid → Lies y (mid + 1) to → Lies (one nodes.MapType from to (beside x y)) from to
in_map_type x y from mid to o_s2 o_s4 =
    let le_s2 = lies_le x (from + 2) mid o_s2 in
    let le_s4 = lies_le y (mid + 1) to o_s4 in
    one_in nodes.MapType from to from to (beside x y) (omega arith) (omega arith) (omega arith) (beside_in x y from mid to (widen_in x (from + 2) mid from mid (omega arith) (omega arith) o_s2) (widen_in y (mid + 1) to mid to (omega arith) (omega arith) o_s4)) (λ e. never e)

pub in_chan_type : (x : Forest) (from : ℕ) (to : ℕ) → Lies x (from + 1) to → Lies (one nodes.ChanType from to x) from to
in_chan_type x from to o_s2 =
    let le_s2 = lies_le x (from + 1) to o_s2 in
    one_in nodes.ChanType from to from to x (omega arith) (omega arith) (omega arith) (widen_in x (from + 1) to from to (omega arith) (omega arith) o_s2) (λ e. never e)

pub in_send_type : (x : Forest) (from : ℕ) (to : ℕ) → Lies x (from + 2) to → Lies (one nodes.SendType from to x) from to
in_send_type x from to o_s2 =
    let le_s2 = lies_le x (from + 2) to o_s2 in
    one_in nodes.SendType from to from to x (omega arith) (omega arith) (omega arith) (widen_in x (from + 2) to from to (omega arith) (omega arith) o_s2) (λ e. never e)

pub in_receive_type : (x : Forest) (from : ℕ) (to : ℕ) → Lies x (from + 2) to → Lies (one nodes.ReceiveType from to x) from to
in_receive_type x from to o_s2 =
    let le_s2 = lies_le x (from + 2) to o_s2 in
    one_in nodes.ReceiveType from to from to x (omega arith) (omega arith) (omega arith) (widen_in x (from + 2) to from to (omega arith) (omega arith) o_s2) (λ e. never e)

pub in_func_type : (x : Forest) (from : ℕ) (to : ℕ) → Lies x (from + 1) to → Lies (one nodes.FuncType from to x) from to
in_func_type x from to o_s1 =
    let le_s1 = lies_le x (from + 1) to o_s1 in
    one_in nodes.FuncType from to from to x (omega arith) (omega arith) (omega arith) (widen_in x (from + 1) to from to (omega arith) (omega arith) o_s1) (λ e. never e)

pub in_struct_type : (x : Forest) (from : ℕ) (to : ℕ) → Lies x (from + 2) to → Lies (one nodes.StructType from (to + 1) x) from (to + 1)
in_struct_type x from to o_s2 =
    let le_s2 = lies_le x (from + 2) to o_s2 in
    one_in nodes.StructType from (to + 1) from (to + 1) x (omega arith) (omega arith) (omega arith) (widen_in x (from + 2) to from (to + 1) (omega arith) (omega arith) o_s2) (λ e. never e)

pub in_interface_type : (x : Forest) (from : ℕ) (to : ℕ) → Lies x (from + 2) to → Lies (one nodes.InterfaceType from (to + 1) x) from (to + 1)
in_interface_type x from to o_s2 =
    let le_s2 = lies_le x (from + 2) to o_s2 in
    one_in nodes.InterfaceType from (to + 1) from (to + 1) x (omega arith) (omega arith) (omega arith) (widen_in x (from + 2) to from (to + 1) (omega arith) (omega arith) o_s2) (λ e. never e)

pub in_formed_type : (x : Forest) (from : ℕ) (to : ℕ) → Lies x from to → Lies x from to
in_formed_type x from to o_s1 =
    let le_s1 = lies_le x from to o_s1 in
    widen_in x from to from to (omega arith) (omega arith) o_s1

pub in_no_field : (from : ℕ) → Lies leaf from from
in_no_field from =
    none_in from from (omega arith)

pub in_last_field : (x : Forest) (from : ℕ) (to : ℕ) → Lies x from to → Lies x from to
in_last_field x from to o_s0 =
    let le_s0 = lies_le x from to o_s0 in
    widen_in x from to from to (omega arith) (omega arith) o_s0

pub in_one_field : (x : Forest) (y : Forest) (from : ℕ) (mid : ℕ) (to : ℕ) → Lies x from mid → Lies y (mid + 1) to → Lies (beside x y) from to
in_one_field x y from mid to o_s0 o_s2 =
    let le_s0 = lies_le x from mid o_s0 in
    let le_s2 = lies_le y (mid + 1) to o_s2 in
    beside_in x y from mid to (widen_in x from mid from mid (omega arith) (omega arith) o_s0) (widen_in y (mid + 1) to mid to (omega arith) (omega arith) o_s2)

pub in_named_field : (x : Forest) (y : Forest) (z : Forest) (from : ℕ) (mid : ℕ) (mid2 : ℕ) (to : ℕ) → Lies x from mid → Lies y mid mid2 → Lies z mid2 to → Lies (one nodes.Field from to (beside (one nodes.Names from mid x) (beside y z))) from to
in_named_field x y z from mid mid2 to o_s0 o_s1 o_s2 =
    let le_s0 = lies_le x from mid o_s0 in
    let le_s1 = lies_le y mid mid2 o_s1 in
    let le_s2 = lies_le z mid2 to o_s2 in
    one_in nodes.Field from to from to (beside (one nodes.Names from mid x) (beside y z)) (omega arith) (omega arith) (omega arith) (beside_in (one nodes.Names from mid x) (beside y z) from mid to (one_in nodes.Names from mid from mid x (omega arith) (omega arith) (omega arith) (widen_in x from mid from mid (omega arith) (omega arith) o_s0) (λ e. never e)) (beside_in y z mid mid2 to (widen_in y mid mid2 mid mid2 (omega arith) (omega arith) o_s1) (widen_in z mid2 to mid2 to (omega arith) (omega arith) o_s2))) (λ e. never e)

pub in_embedded_field : (x : Forest) (y : Forest) (from : ℕ) (mid : ℕ) (to : ℕ) → Lies x from mid → Lies y mid to → Lies (one nodes.EmbeddedField from to (beside x y)) from to
in_embedded_field x y from mid to o_s0 o_s1 =
    let le_s0 = lies_le x from mid o_s0 in
    let le_s1 = lies_le y mid to o_s1 in
    one_in nodes.EmbeddedField from to from to (beside x y) (omega arith) (omega arith) (omega arith) (beside_in x y from mid to (widen_in x from mid from mid (omega arith) (omega arith) o_s0) (widen_in y mid to mid to (omega arith) (omega arith) o_s1)) (λ e. never e)

pub in_embedded_pointer : (x : Forest) (y : Forest) (from : ℕ) (mid : ℕ) (to : ℕ) → Lies x (from + 1) mid → Lies y mid to → Lies (one nodes.EmbeddedPointer from to (beside x y)) from to
in_embedded_pointer x y from mid to o_s1 o_s2 =
    let le_s1 = lies_le x (from + 1) mid o_s1 in
    let le_s2 = lies_le y mid to o_s2 in
    one_in nodes.EmbeddedPointer from to from to (beside x y) (omega arith) (omega arith) (omega arith) (beside_in x y from mid to (widen_in x (from + 1) mid from mid (omega arith) (omega arith) o_s1) (widen_in y mid to mid to (omega arith) (omega arith) o_s2)) (λ e. never e)

pub in_embedded_name : (from : ℕ) → Lies (one nodes.TypeName from (from + 1) leaf) from (from + 1)
in_embedded_name from =
    one_in nodes.TypeName from (from + 1) from (from + 1) leaf (omega arith) (omega arith) (omega arith) (none_in from (from + 1) (omega arith)) (λ e. never e)

pub in_embedded_qualified : (from : ℕ) → Lies (one nodes.QualifiedType from (from + 3) leaf) from (from + 3)
in_embedded_qualified from =
    one_in nodes.QualifiedType from (from + 3) from (from + 3) leaf (omega arith) (omega arith) (omega arith) (none_in from (from + 3) (omega arith)) (λ e. never e)

pub in_no_tag : (from : ℕ) → Lies leaf from from
in_no_tag from =
    none_in from from (omega arith)

pub in_a_tag : (from : ℕ) → Lies (one nodes.Tag from (from + 1) leaf) from (from + 1)
in_a_tag from =
    one_in nodes.Tag from (from + 1) from (from + 1) leaf (omega arith) (omega arith) (omega arith) (none_in from (from + 1) (omega arith)) (λ e. never e)

pub in_no_element : (from : ℕ) → Lies leaf from from
in_no_element from =
    none_in from from (omega arith)

pub in_last_element : (x : Forest) (from : ℕ) (to : ℕ) → Lies x from to → Lies x from to
in_last_element x from to o_s0 =
    let le_s0 = lies_le x from to o_s0 in
    widen_in x from to from to (omega arith) (omega arith) o_s0

pub in_one_element : (x : Forest) (y : Forest) (from : ℕ) (mid : ℕ) (to : ℕ) → Lies x from mid → Lies y (mid + 1) to → Lies (beside x y) from to
in_one_element x y from mid to o_s0 o_s2 =
    let le_s0 = lies_le x from mid o_s0 in
    let le_s2 = lies_le y (mid + 1) to o_s2 in
    beside_in x y from mid to (widen_in x from mid from mid (omega arith) (omega arith) o_s0) (widen_in y (mid + 1) to mid to (omega arith) (omega arith) o_s2)

pub in_method : (x : Forest) (from : ℕ) (to : ℕ) → Lies x (from + 1) to → Lies (one nodes.Method from to (beside (one nodes.DeclName from (from + 1) leaf) x)) from to
in_method x from to o_s1 =
    let le_s1 = lies_le x (from + 1) to o_s1 in
    one_in nodes.Method from to from to (beside (one nodes.DeclName from (from + 1) leaf) x) (omega arith) (omega arith) (omega arith) (beside_in (one nodes.DeclName from (from + 1) leaf) x from (from + 1) to (one_in nodes.DeclName from (from + 1) from (from + 1) leaf (omega arith) (omega arith) (omega arith) (none_in from (from + 1) (omega arith)) (λ e. never e)) (widen_in x (from + 1) to (from + 1) to (omega arith) (omega arith) o_s1)) (λ e. never e)

pub in_embedded_type : (x : Forest) (from : ℕ) (to : ℕ) → Lies x from to → Lies (one nodes.EmbeddedType from to x) from to
in_embedded_type x from to o_s0 =
    let le_s0 = lies_le x from to o_s0 in
    one_in nodes.EmbeddedType from to from to x (omega arith) (omega arith) (omega arith) (widen_in x from to from to (omega arith) (omega arith) o_s0) (λ e. never e)
