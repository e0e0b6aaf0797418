-- The nodes of files, imports and declarations lie in order.
use Rattle.std.proofs.Common.{ℕ, ◌+◌, ◌≤◌, arith}
use Rattle.argot_tree.specs.declared.node_kind.NodeKind.TheVariants as nodes
use Rattle.argot_tree.specs.Forests.{Forest, leaf, beside, one}
use Rattle.argot_names_rules.proofs.Lying.{Lies, lies_le, none_in, widen_in, beside_in, one_in, never}

pub in_file : (x : Forest) (y : Forest) (from : ℕ) (mid : ℕ) (to : ℕ) → Lies x (from + 3) mid → Lies y mid to → Lies (one nodes.File from to (beside (one nodes.DeclName (from + 1) (from + 2) leaf) (beside x y))) from to
in_file x y from mid to o_s3 o_s4 =
    let le_s3 = lies_le x (from + 3) mid o_s3 in
    let le_s4 = lies_le y mid to o_s4 in
    one_in nodes.File from to from to (beside (one nodes.DeclName (from + 1) (from + 2) leaf) (beside x y)) (omega arith) (omega arith) (omega arith) (beside_in (one nodes.DeclName (from + 1) (from + 2) leaf) (beside x y) from (from + 2) to (one_in nodes.DeclName (from + 1) (from + 2) from (from + 2) leaf (omega arith) (omega arith) (omega arith) (none_in (from + 1) (from + 2) (omega arith)) (λ e. never e)) (beside_in x y (from + 2) mid to (widen_in x (from + 3) mid (from + 2) mid (omega arith) (omega arith) o_s3) (widen_in y mid to mid to (omega arith) (omega arith) o_s4))) (λ e. never e)

pub in_no_import : (from : ℕ) → Lies leaf from from
in_no_import from =
    none_in from from (omega arith)

pub in_one_import : (x : Forest) (y : Forest) (from : ℕ) (mid : ℕ) (to : ℕ) → Lies x from mid → Lies y (mid + 1) to → Lies (beside x y) from to
in_one_import x y from mid to o_s0 o_s2 =
    let le_s0 = lies_le x from mid o_s0 in
    let le_s2 = lies_le y (mid + 1) to o_s2 in
    beside_in x y from mid to (widen_in x from mid from mid (omega arith) (omega arith) o_s0) (widen_in y (mid + 1) to mid to (omega arith) (omega arith) o_s2)

pub in_import_one : (x : Forest) (from : ℕ) (to : ℕ) → Lies x (from + 1) to → Lies (one nodes.Import from to x) from to
in_import_one x from to o_s1 =
    let le_s1 = lies_le x (from + 1) to o_s1 in
    one_in nodes.Import from to from to x (omega arith) (omega arith) (omega arith) (widen_in x (from + 1) to from to (omega arith) (omega arith) o_s1) (λ e. never e)

pub in_import_group : (x : Forest) (from : ℕ) (to : ℕ) → Lies x (from + 2) to → Lies (one nodes.ImportGroup from (to + 1) x) from (to + 1)
in_import_group x from to o_s2 =
    let le_s2 = lies_le x (from + 2) to o_s2 in
    one_in nodes.ImportGroup from (to + 1) from (to + 1) x (omega arith) (omega arith) (omega arith) (widen_in x (from + 2) to from (to + 1) (omega arith) (omega arith) o_s2) (λ e. never e)

pub in_no_spec : (from : ℕ) → Lies leaf from from
in_no_spec from =
    none_in from from (omega arith)

pub in_last_spec : (x : Forest) (from : ℕ) (to : ℕ) → Lies x from to → Lies x from to
in_last_spec x from to o_s0 =
    let le_s0 = lies_le x from to o_s0 in
    widen_in x from to from to (omega arith) (omega arith) o_s0

pub in_one_spec : (x : Forest) (y : Forest) (from : ℕ) (mid : ℕ) (to : ℕ) → Lies x from mid → Lies y (mid + 1) to → Lies (beside x y) from to
in_one_spec x y from mid to o_s0 o_s2 =
    let le_s0 = lies_le x from mid o_s0 in
    let le_s2 = lies_le y (mid + 1) to o_s2 in
    beside_in x y from mid to (widen_in x from mid from mid (omega arith) (omega arith) o_s0) (widen_in y (mid + 1) to mid to (omega arith) (omega arith) o_s2)

pub in_spec : (from : ℕ) → Lies (one nodes.Spec from (from + 1) (one nodes.ImportPath from (from + 1) leaf)) from (from + 1)
in_spec from =
    one_in nodes.Spec from (from + 1) from (from + 1) (one nodes.ImportPath from (from + 1) leaf) (omega arith) (omega arith) (omega arith) (one_in nodes.ImportPath from (from + 1) from (from + 1) leaf (omega arith) (omega arith) (omega arith) (none_in from (from + 1) (omega arith)) (λ e. never e)) (λ e. never e)

pub in_dot_spec : (from : ℕ) → Lies (one nodes.DotSpec from (from + 2) (one nodes.ImportPath (from + 1) (from + 2) leaf)) from (from + 2)
in_dot_spec from =
    one_in nodes.DotSpec from (from + 2) from (from + 2) (one nodes.ImportPath (from + 1) (from + 2) leaf) (omega arith) (omega arith) (omega arith) (one_in nodes.ImportPath (from + 1) (from + 2) from (from + 2) leaf (omega arith) (omega arith) (omega arith) (none_in (from + 1) (from + 2) (omega arith)) (λ e. never e)) (λ e. never e)

pub in_named_spec : (from : ℕ) → Lies (one nodes.NamedSpec from (from + 2) (beside (one nodes.DeclName from (from + 1) leaf) (one nodes.ImportPath (from + 1) (from + 2) leaf))) from (from + 2)
in_named_spec from =
    one_in nodes.NamedSpec from (from + 2) from (from + 2) (beside (one nodes.DeclName from (from + 1) leaf) (one nodes.ImportPath (from + 1) (from + 2) leaf)) (omega arith) (omega arith) (omega arith) (beside_in (one nodes.DeclName from (from + 1) leaf) (one nodes.ImportPath (from + 1) (from + 2) leaf) from (from + 1) (from + 2) (one_in nodes.DeclName from (from + 1) from (from + 1) leaf (omega arith) (omega arith) (omega arith) (none_in from (from + 1) (omega arith)) (λ e. never e)) (one_in nodes.ImportPath (from + 1) (from + 2) (from + 1) (from + 2) leaf (omega arith) (omega arith) (omega arith) (none_in (from + 1) (from + 2) (omega arith)) (λ e. never e))) (λ e. never e)

pub in_no_top : (from : ℕ) → Lies leaf from from
in_no_top from =
    none_in from from (omega arith)

pub in_one_top : (x : Forest) (y : Forest) (from : ℕ) (mid : ℕ) (to : ℕ) → Lies x from mid → Lies y (mid + 1) to → Lies (beside x y) from to
in_one_top x y from mid to o_s0 o_s2 =
    let le_s0 = lies_le x from mid o_s0 in
    let le_s2 = lies_le y (mid + 1) to o_s2 in
    beside_in x y from mid to (widen_in x from mid from mid (omega arith) (omega arith) o_s0) (widen_in y (mid + 1) to mid to (omega arith) (omega arith) o_s2)

pub in_top_decl : (x : Forest) (from : ℕ) (to : ℕ) → Lies x from to → Lies x from to
in_top_decl x from to o_s0 =
    let le_s0 = lies_le x from to o_s0 in
    widen_in x from to from to (omega arith) (omega arith) o_s0

pub in_top_func : (x : Forest) (y : Forest) (z : Forest) (w : Forest) (from : ℕ) (mid : ℕ) (mid2 : ℕ) (mid3 : ℕ) (to : ℕ) → Lies x (from + 1) mid → Lies y (mid + 1) mid2 → Lies z mid2 mid3 → Lies w mid3 to → Lies (one nodes.FuncDecl from to (beside x (beside (one nodes.DeclName mid (mid + 1) leaf) (beside y (beside z w))))) from to
in_top_func x y z w from mid mid2 mid3 to o_s1 o_s3 o_s4 o_s5 =
    let le_s1 = lies_le x (from + 1) mid o_s1 in
    let le_s3 = lies_le y (mid + 1) mid2 o_s3 in
    let le_s4 = lies_le z mid2 mid3 o_s4 in
    let le_s5 = lies_le w mid3 to o_s5 in
    one_in nodes.FuncDecl from to from to (beside x (beside (one nodes.DeclName mid (mid + 1) leaf) (beside y (beside z w)))) (omega arith) (omega arith) (omega arith) (beside_in x (beside (one nodes.DeclName mid (mid + 1) leaf) (beside y (beside z w))) from mid to (widen_in x (from + 1) mid from mid (omega arith) (omega arith) o_s1) (beside_in (one nodes.DeclName mid (mid + 1) leaf) (beside y (beside z w)) mid (mid + 1) to (one_in nodes.DeclName mid (mid + 1) mid (mid + 1) leaf (omega arith) (omega arith) (omega arith) (none_in mid (mid + 1) (omega arith)) (λ e. never e)) (beside_in y (beside z w) (mid + 1) mid2 to (widen_in y (mid + 1) mid2 (mid + 1) mid2 (omega arith) (omega arith) o_s3) (beside_in z w mid2 mid3 to (widen_in z mid2 mid3 mid2 mid3 (omega arith) (omega arith) o_s4) (widen_in w mid3 to mid3 to (omega arith) (omega arith) o_s5))))) (λ e. never e)

pub in_no_receiver : (from : ℕ) → Lies leaf from from
in_no_receiver from =
    none_in from from (omega arith)

pub in_a_receiver : (x : Forest) (from : ℕ) (to : ℕ) → Lies x from to → Lies x from to
in_a_receiver x from to o_s0 =
    let le_s0 = lies_le x from to o_s0 in
    widen_in x from to from to (omega arith) (omega arith) o_s0

pub in_receiver_type : (x : Forest) (from : ℕ) (mid : ℕ) (to : ℕ) → Lies x (from + 1) mid → mid ≤ to → Lies (one nodes.Params from (to + 1) (one nodes.Param (from + 1) mid x)) from (to + 1)
in_receiver_type x from mid to o_s1 c_s2 =
    let le_s1 = lies_le x (from + 1) mid o_s1 in
    one_in nodes.Params from (to + 1) from (to + 1) (one nodes.Param (from + 1) mid x) (omega arith) (omega arith) (omega arith) (one_in nodes.Param (from + 1) mid from (to + 1) x (omega arith) (omega arith) (omega arith) (widen_in x (from + 1) mid (from + 1) mid (omega arith) (omega arith) o_s1) (λ e. never e)) (λ e. never e)

pub in_receiver_named : (x : Forest) (from : ℕ) (mid : ℕ) (to : ℕ) → Lies x (from + 2) mid → mid ≤ to → Lies (one nodes.NamedParams from (to + 1) (one nodes.NamedParam (from + 1) mid (beside (one nodes.DeclName (from + 1) (from + 2) leaf) x))) from (to + 1)
in_receiver_named x from mid to o_s2 c_s3 =
    let le_s2 = lies_le x (from + 2) mid o_s2 in
    one_in nodes.NamedParams from (to + 1) from (to + 1) (one nodes.NamedParam (from + 1) mid (beside (one nodes.DeclName (from + 1) (from + 2) leaf) x)) (omega arith) (omega arith) (omega arith) (one_in nodes.NamedParam (from + 1) mid from (to + 1) (beside (one nodes.DeclName (from + 1) (from + 2) leaf) x) (omega arith) (omega arith) (omega arith) (beside_in (one nodes.DeclName (from + 1) (from + 2) leaf) x (from + 1) (from + 2) mid (one_in nodes.DeclName (from + 1) (from + 2) (from + 1) (from + 2) leaf (omega arith) (omega arith) (omega arith) (none_in (from + 1) (from + 2) (omega arith)) (λ e. never e)) (widen_in x (from + 2) mid (from + 2) mid (omega arith) (omega arith) o_s2)) (λ e. never e)) (λ e. never e)

pub in_no_type_params : (from : ℕ) → Lies leaf from from
in_no_type_params from =
    none_in from from (omega arith)

pub in_some_type_params : (x : Forest) (from : ℕ) (to : ℕ) → Lies x from to → Lies x from to
in_some_type_params x from to o_s0 =
    let le_s0 = lies_le x from to o_s0 in
    widen_in x from to from to (omega arith) (omega arith) o_s0

pub in_no_body : (from : ℕ) → Lies leaf from from
in_no_body from =
    none_in from from (omega arith)

pub in_a_body : (x : Forest) (from : ℕ) (to : ℕ) → Lies x from to → Lies x from to
in_a_body x from to o_s0 =
    let le_s0 = lies_le x from to o_s0 in
    widen_in x from to from to (omega arith) (omega arith) o_s0

pub in_type_params : (from : ℕ) (to : ℕ) → Lies leaf (from + 2) to → Lies (one nodes.TypeParams from (to + 1) leaf) from (to + 1)
in_type_params from to o_s2 =
    let le_s2 = lies_le leaf (from + 2) to o_s2 in
    one_in nodes.TypeParams from (to + 1) from (to + 1) leaf (omega arith) (omega arith) (omega arith) (none_in from (to + 1) (omega arith)) (λ e. never e)

pub in_balanced_none : (from : ℕ) → Lies leaf from from
in_balanced_none from =
    none_in from from (omega arith)

pub in_balanced_token : (from : ℕ) (to : ℕ) → Lies leaf (from + 1) to → Lies leaf from to
in_balanced_token from to o_s1 =
    let le_s1 = lies_le leaf (from + 1) to o_s1 in
    none_in from to (omega arith)

pub in_balanced_parens : (from : ℕ) (mid : ℕ) (to : ℕ) → Lies leaf (from + 1) mid → Lies leaf (mid + 1) to → Lies leaf from to
in_balanced_parens from mid to o_s1 o_s3 =
    let le_s1 = lies_le leaf (from + 1) mid o_s1 in
    let le_s3 = lies_le leaf (mid + 1) to o_s3 in
    none_in from to (omega arith)

pub in_balanced_brackets : (from : ℕ) (mid : ℕ) (to : ℕ) → Lies leaf (from + 1) mid → Lies leaf (mid + 1) to → Lies leaf from to
in_balanced_brackets from mid to o_s1 o_s3 =
    let le_s1 = lies_le leaf (from + 1) mid o_s1 in
    let le_s3 = lies_le leaf (mid + 1) to o_s3 in
    none_in from to (omega arith)

pub in_balanced_braces : (from : ℕ) (mid : ℕ) (to : ℕ) → Lies leaf (from + 1) mid → Lies leaf (mid + 1) to → Lies leaf from to
in_balanced_braces from mid to o_s1 o_s3 =
    let le_s1 = lies_le leaf (from + 1) mid o_s1 in
    let le_s3 = lies_le leaf (mid + 1) to o_s3 in
    none_in from to (omega arith)

pub in_decl_const : (x : Forest) (from : ℕ) (to : ℕ) → Lies x (from + 1) to → Lies (one nodes.ConstDecl from to x) from to
in_decl_const x from to o_s1 =
    let le_s1 = lies_le x (from + 1) to o_s1 in
    one_in nodes.ConstDecl from to from to x (omega arith) (omega arith) (omega arith) (widen_in x (from + 1) to from to (omega arith) (omega arith) o_s1) (λ e. never e)

pub in_group_const : (x : Forest) (from : ℕ) (to : ℕ) → Lies x (from + 2) to → Lies (one nodes.ConstGroup from (to + 1) x) from (to + 1)
in_group_const x from to o_s2 =
    let le_s2 = lies_le x (from + 2) to o_s2 in
    one_in nodes.ConstGroup from (to + 1) from (to + 1) x (omega arith) (omega arith) (omega arith) (widen_in x (from + 2) to from (to + 1) (omega arith) (omega arith) o_s2) (λ e. never e)

pub in_decl_var : (x : Forest) (from : ℕ) (to : ℕ) → Lies x (from + 1) to → Lies (one nodes.VarDecl from to x) from to
in_decl_var x from to o_s1 =
    let le_s1 = lies_le x (from + 1) to o_s1 in
    one_in nodes.VarDecl from to from to x (omega arith) (omega arith) (omega arith) (widen_in x (from + 1) to from to (omega arith) (omega arith) o_s1) (λ e. never e)

pub in_group_var : (x : Forest) (from : ℕ) (to : ℕ) → Lies x (from + 2) to → Lies (one nodes.VarGroup from (to + 1) x) from (to + 1)
in_group_var x from to o_s2 =
    let le_s2 = lies_le x (from + 2) to o_s2 in
    one_in nodes.VarGroup from (to + 1) from (to + 1) x (omega arith) (omega arith) (omega arith) (widen_in x (from + 2) to from (to + 1) (omega arith) (omega arith) o_s2) (λ e. never e)

pub in_decl_type : (x : Forest) (from : ℕ) (to : ℕ) → Lies x (from + 1) to → Lies (one nodes.TypeDecl from to x) from to
in_decl_type x from to o_s1 =
    let le_s1 = lies_le x (from + 1) to o_s1 in
    one_in nodes.TypeDecl from to from to x (omega arith) (omega arith) (omega arith) (widen_in x (from + 1) to from to (omega arith) (omega arith) o_s1) (λ e. never e)

pub in_group_type : (x : Forest) (from : ℕ) (to : ℕ) → Lies x (from + 2) to → Lies (one nodes.TypeGroup from (to + 1) x) from (to + 1)
in_group_type x from to o_s2 =
    let le_s2 = lies_le x (from + 2) to o_s2 in
    one_in nodes.TypeGroup from (to + 1) from (to + 1) x (omega arith) (omega arith) (omega arith) (widen_in x (from + 2) to from (to + 1) (omega arith) (omega arith) o_s2) (λ e. never e)

pub in_no_declared : (from : ℕ) → Lies leaf from from
in_no_declared from =
    none_in from from (omega arith)

pub in_last_declared : (x : Forest) (from : ℕ) (to : ℕ) → Lies x from to → Lies x from to
in_last_declared x from to o_s0 =
    let le_s0 = lies_le x from to o_s0 in
    widen_in x from to from to (omega arith) (omega arith) o_s0

pub in_one_declared : (x : Forest) (y : Forest) (from : ℕ) (mid : ℕ) (to : ℕ) → Lies x from mid → Lies y (mid + 1) to → Lies (beside x y) from to
in_one_declared x y from mid to o_s0 o_s2 =
    let le_s0 = lies_le x from mid o_s0 in
    let le_s2 = lies_le y (mid + 1) to o_s2 in
    beside_in x y from mid to (widen_in x from mid from mid (omega arith) (omega arith) o_s0) (widen_in y (mid + 1) to mid to (omega arith) (omega arith) o_s2)

pub in_constants : (x : Forest) (from : ℕ) (mid : ℕ) → Lies x from mid → Lies (one nodes.ConstSpec from mid (one nodes.Names from mid x)) from mid
in_constants x from mid o_s0 =
    let le_s0 = lies_le x from mid o_s0 in
    one_in nodes.ConstSpec from mid from mid (one nodes.Names from mid x) (omega arith) (omega arith) (omega arith) (one_in nodes.Names from mid from mid x (omega arith) (omega arith) (omega arith) (widen_in x from mid from mid (omega arith) (omega arith) o_s0) (λ e. never e)) (λ e. never e)

pub in_constants_are : (x : Forest) (y : Forest) (z : Forest) (from : ℕ) (mid : ℕ) (mid2 : ℕ) (to : ℕ) → Lies x from mid → Lies y mid mid2 → Lies z (mid2 + 1) to → Lies (one nodes.ConstSpec from to (beside (one nodes.Names from mid x) (beside y (one nodes.Exprs (mid2 + 1) to z)))) from to
in_constants_are x y z from mid mid2 to o_s0 o_s1 o_s3 =
    let le_s0 = lies_le x from mid o_s0 in
    let le_s1 = lies_le y mid mid2 o_s1 in
    let le_s3 = lies_le z (mid2 + 1) to o_s3 in
    one_in nodes.ConstSpec from to from to (beside (one nodes.Names from mid x) (beside y (one nodes.Exprs (mid2 + 1) to z))) (omega arith) (omega arith) (omega arith) (beside_in (one nodes.Names from mid x) (beside y (one nodes.Exprs (mid2 + 1) to z)) from mid to (one_in nodes.Names from mid from mid x (omega arith) (omega arith) (omega arith) (widen_in x from mid from mid (omega arith) (omega arith) o_s0) (λ e. never e)) (beside_in y (one nodes.Exprs (mid2 + 1) to z) mid mid2 to (widen_in y mid mid2 mid mid2 (omega arith) (omega arith) o_s1) (one_in nodes.Exprs (mid2 + 1) to mid2 to z (omega arith) (omega arith) (omega arith) (widen_in z (mid2 + 1) to (mid2 + 1) to (omega arith) (omega arith) o_s3) (λ e. never e)))) (λ e. never e)

pub in_variables_typed : (x : Forest) (y : Forest) (z : Forest) (from : ℕ) (mid : ℕ) (mid2 : ℕ) (to : ℕ) → Lies x from mid → Lies y mid mid2 → Lies z mid2 to → Lies (one nodes.VarSpec from to (beside (one nodes.Names from mid x) (beside y z))) from to
in_variables_typed x y z from mid mid2 to o_s0 o_s1 o_s2 =
    let le_s0 = lies_le x from mid o_s0 in
    let le_s1 = lies_le y mid mid2 o_s1 in
    let le_s2 = lies_le z mid2 to o_s2 in
    one_in nodes.VarSpec from to from to (beside (one nodes.Names from mid x) (beside y z)) (omega arith) (omega arith) (omega arith) (beside_in (one nodes.Names from mid x) (beside y z) from mid to (one_in nodes.Names from mid from mid x (omega arith) (omega arith) (omega arith) (widen_in x from mid from mid (omega arith) (omega arith) o_s0) (λ e. never e)) (beside_in y z mid mid2 to (widen_in y mid mid2 mid mid2 (omega arith) (omega arith) o_s1) (widen_in z mid2 to mid2 to (omega arith) (omega arith) o_s2))) (λ e. never e)

pub in_variables_are : (x : Forest) (y : Forest) (from : ℕ) (mid : ℕ) (to : ℕ) → Lies x from mid → Lies y (mid + 1) to → Lies (one nodes.VarSpec from to (beside (one nodes.Names from mid x) (one nodes.Exprs (mid + 1) to y))) from to
in_variables_are x y from mid to o_s0 o_s2 =
    let le_s0 = lies_le x from mid o_s0 in
    let le_s2 = lies_le y (mid + 1) to o_s2 in
    one_in nodes.VarSpec from to from to (beside (one nodes.Names from mid x) (one nodes.Exprs (mid + 1) to y)) (omega arith) (omega arith) (omega arith) (beside_in (one nodes.Names from mid x) (one nodes.Exprs (mid + 1) to y) from mid to (one_in nodes.Names from mid from mid x (omega arith) (omega arith) (omega arith) (widen_in x from mid from mid (omega arith) (omega arith) o_s0) (λ e. never e)) (one_in nodes.Exprs (mid + 1) to mid to y (omega arith) (omega arith) (omega arith) (widen_in y (mid + 1) to (mid + 1) to (omega arith) (omega arith) o_s2) (λ e. never e))) (λ e. never e)

pub in_untyped : (from : ℕ) → Lies leaf from from
in_untyped from =
    none_in from from (omega arith)

pub in_typed : (x : Forest) (from : ℕ) (to : ℕ) → Lies x from to → Lies x from to
in_typed x from to o_s0 =
    let le_s0 = lies_le x from to o_s0 in
    widen_in x from to from to (omega arith) (omega arith) o_s0

pub in_no_values : (from : ℕ) → Lies leaf from from
in_no_values from =
    none_in from from (omega arith)

pub in_some_values : (x : Forest) (from : ℕ) (to : ℕ) → Lies x (from + 1) to → Lies (one nodes.Exprs (from + 1) to x) from to
in_some_values x from to o_s1 =
    let le_s1 = lies_le x (from + 1) to o_s1 in
    one_in nodes.Exprs (from + 1) to from to x (omega arith) (omega arith) (omega arith) (widen_in x (from + 1) to (from + 1) to (omega arith) (omega arith) o_s1) (λ e. never e)

pub in_type_spec : (x : Forest) (from : ℕ) (to : ℕ) → Lies x (from + 1) to → Lies (one nodes.TypeSpec from to (beside (one nodes.DeclName from (from + 1) leaf) x)) from to
in_type_spec x from to o_s1 =
    let le_s1 = lies_le x (from + 1) to o_s1 in
    one_in nodes.TypeSpec from to from to (beside (one nodes.DeclName from (from + 1) leaf) x) (omega arith) (omega arith) (omega arith) (beside_in (one nodes.DeclName from (from + 1) leaf) x from (from + 1) to (one_in nodes.DeclName from (from + 1) from (from + 1) leaf (omega arith) (omega arith) (omega arith) (none_in from (from + 1) (omega arith)) (λ e. never e)) (widen_in x (from + 1) to (from + 1) to (omega arith) (omega arith) o_s1)) (λ e. never e)

pub in_alias_spec : (x : Forest) (from : ℕ) (to : ℕ) → Lies x (from + 2) to → Lies (one nodes.AliasSpec from to (beside (one nodes.DeclName from (from + 1) leaf) x)) from to
in_alias_spec x from to o_s2 =
    let le_s2 = lies_le x (from + 2) to o_s2 in
    one_in nodes.AliasSpec from to from to (beside (one nodes.DeclName from (from + 1) leaf) x) (omega arith) (omega arith) (omega arith) (beside_in (one nodes.DeclName from (from + 1) leaf) x from (from + 1) to (one_in nodes.DeclName from (from + 1) from (from + 1) leaf (omega arith) (omega arith) (omega arith) (none_in from (from + 1) (omega arith)) (λ e. never e)) (widen_in x (from + 2) to (from + 1) to (omega arith) (omega arith) o_s2)) (λ e. never e)

pub in_generic_spec : (x : Forest) (y : Forest) (from : ℕ) (mid : ℕ) (to : ℕ) → Lies x (from + 1) mid → Lies y mid to → Lies (one nodes.TypeSpec from to (beside (one nodes.DeclName from (from + 1) leaf) (beside x y))) from to
in_generic_spec x y from mid to o_s2 o_s3 =
    let le_s2 = lies_le x (from + 1) mid o_s2 in
    let le_s3 = lies_le y mid to o_s3 in
    one_in nodes.TypeSpec from to from to (beside (one nodes.DeclName from (from + 1) leaf) (beside x y)) (omega arith) (omega arith) (omega arith) (beside_in (one nodes.DeclName from (from + 1) leaf) (beside x y) from (from + 1) to (one_in nodes.DeclName from (from + 1) from (from + 1) leaf (omega arith) (omega arith) (omega arith) (none_in from (from + 1) (omega arith)) (λ e. never e)) (beside_in x y (from + 1) mid to (widen_in x (from + 1) mid (from + 1) mid (omega arith) (omega arith) o_s2) (widen_in y mid to mid to (omega arith) (omega arith) o_s3))) (λ e. never e)

pub in_generic_alias : (x : Forest) (y : Forest) (from : ℕ) (mid : ℕ) (to : ℕ) → Lies x (from + 1) mid → Lies y (mid + 1) to → Lies (one nodes.AliasSpec from to (beside (one nodes.DeclName from (from + 1) leaf) (beside x y))) from to
in_generic_alias x y from mid to o_s2 o_s4 =
    let le_s2 = lies_le x (from + 1) mid o_s2 in
    let le_s4 = lies_le y (mid + 1) to o_s4 in
    one_in nodes.AliasSpec from to from to (beside (one nodes.DeclName from (from + 1) leaf) (beside x y)) (omega arith) (omega arith) (omega arith) (beside_in (one nodes.DeclName from (from + 1) leaf) (beside x y) from (from + 1) to (one_in nodes.DeclName from (from + 1) from (from + 1) leaf (omega arith) (omega arith) (omega arith) (none_in from (from + 1) (omega arith)) (λ e. never e)) (beside_in x y (from + 1) mid to (widen_in x (from + 1) mid (from + 1) mid (omega arith) (omega arith) o_s2) (widen_in y (mid + 1) to mid to (omega arith) (omega arith) o_s4))) (λ e. never e)

pub in_last_name : (from : ℕ) → Lies (one nodes.DeclName from (from + 1) leaf) from (from + 1)
in_last_name from =
    one_in nodes.DeclName from (from + 1) from (from + 1) leaf (omega arith) (omega arith) (omega arith) (none_in from (from + 1) (omega arith)) (λ e. never e)

pub in_one_name : (x : Forest) (from : ℕ) (to : ℕ) → Lies x (from + 2) to → Lies (beside (one nodes.DeclName from (from + 1) leaf) x) from to
in_one_name x from to o_s2 =
    let le_s2 = lies_le x (from + 2) to o_s2 in
    beside_in (one nodes.DeclName from (from + 1) leaf) x from (from + 1) to (one_in nodes.DeclName from (from + 1) from (from + 1) leaf (omega arith) (omega arith) (omega arith) (none_in from (from + 1) (omega arith)) (λ e. never e)) (widen_in x (from + 2) to (from + 1) to (omega arith) (omega arith) o_s2)
