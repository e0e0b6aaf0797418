-- Specifications of constants: which list each has, `iota`, and what is copied where a later specification repeats a list
-- (Go specification: Constant declarations, Iota).
use Rattle.std.specs.Prelude.{ℕ, zero, suc, ◌==◌, Bool, true, false, not, ◌&&◌, List, [], ◌∷◌, length, Option, Some, None, if◌then◌else◌, codes}
use Rattle.argot_tree.specs.declared.node_kind.NodeKind.{NodeKind}
use Rattle.argot_tree.specs.declared.node_kind.NodeKind.TheVariants as nodes
use Rattle.argot_check_source.specs.Code.{Code, children, parent_of, is_of, child_of, place_in, is_exprs, is_names, is_block, is_const_spec, is_name_use}
use Rattle.argot_check_source.specs.Names.{is_predeclared}

abbrev pub is_const_group : NodeKind → Bool
is_const_group nodes.ConstGroup = true
is_const_group _ = false

-- the specifications of its group, in order; alone where it isn't grouped
abbrev pub group_by : Code → ℕ → Option ℕ → List ℕ
group_by c spec None = spec ∷ []
group_by c spec (Some g) = if is_of c is_const_group g then children c g else spec ∷ []

abbrev pub group_of : Code → ℕ → List ℕ
group_of c spec = group_by c spec (parent_of c spec)

-- the number of a specification in its group
abbrev pub number_of : Code → ℕ → ℕ
number_of c spec = place_in spec (group_of c spec)

-- the expressions that stand behind its `=`
abbrev pub values_of : Code → ℕ → Option ℕ
values_of c spec = child_of c is_exprs spec

-- its written type: the child that is neither names nor expressions
abbrev pub is_type_part : NodeKind → Bool
is_type_part kind = not (is_names kind) && not (is_exprs kind)

abbrev pub written_of : Code → ℕ → Option ℕ
written_of c spec = child_of c is_type_part spec

-- the nearest of these that has a list, up to the specification itself
abbrev pub latest : Code → ℕ → Option ℕ → List ℕ → Option ℕ
latest c spec best [] = best
latest c spec best (s ∷ ss) =
    let here : Option ℕ = elim (values_of c s) [ None ↦ best | Some v ↦ Some s ] in
    if s == spec then here else latest c spec here ss

-- the specification whose list it has: itself, or the nearest before it in its group that has one
abbrev pub list_of : Code → ℕ → Option ℕ
list_of c spec = latest c spec None (group_of c spec)

-- the specification in whose list a node stands, or in whose written type; the body of a function literal is in none. One
-- goes up from a node, and the last step came from a child
abbrev pub spec_around : Code → ℕ → ℕ → Option ℕ → Option ℕ
spec_around c zero from at = None
spec_around c (suc k) from None = None
spec_around c (suc k) from (Some n) =
    if is_of c is_block n then None
    else if is_of c is_const_spec n then (if is_of c is_names from then None else Some n)
    else spec_around c k n (parent_of c n)

abbrev pub list_around : Code → ℕ → Option ℕ
list_around c n = if is_of c is_block n then None else spec_around c (length c.nodes) n (parent_of c n)

abbrev pub is_spec : ℕ → Option ℕ → Bool
is_spec s None = false
is_spec s (Some t) = s == t

abbrev pub numbers_that : (ℕ → Bool) → (more at : ℕ) → List ℕ
numbers_that test zero at = []
numbers_that test (suc more) at = if test at then at ∷ numbers_that test more (suc at) else numbers_that test more (suc at)

-- all nodes of a list and of its written type
abbrev pub nodes_of_list : Code → ℕ → List ℕ
nodes_of_list c spec = numbers_that (λ n. is_spec spec (list_around c n)) (length c.nodes) 0

abbrev pub has_iota_among : Code → List ℕ → Bool
has_iota_among c [] = false
has_iota_among c (n ∷ ns) = if is_of c is_name_use n && is_predeclared c (codes "iota") n then true else has_iota_among c ns

-- the list has `iota` in it
abbrev pub has_iota : Code → ℕ → Bool
has_iota c spec = has_iota_among c (nodes_of_list c spec)

-- it repeats a list that has: its constants are judged anew, with its own number
abbrev pub is_copied : Code → ℕ → Bool
is_copied c spec = elim (list_of c spec) [ None ↦ false | Some s ↦ not (s == spec) && has_iota c s ]
