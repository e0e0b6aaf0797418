-- Which variables of functions are objects: all others are registers.
use Rattle.std.specs.Prelude.{ℕ, zero, suc, ◌==◌, Bool, true, false, not, ◌&&◌, ◌||◌, List, [], ◌∷◌, filter_map, Option, Some, None, if◌then◌else◌}
use Rattle.std.specs.List.{list_any}
use Rattle.argot_tree.specs.declared.node_kind.NodeKind.{NodeKind}
use Rattle.argot_tree.specs.declared.node_kind.NodeKind.TheVariants as nodes
use Rattle.argot_lower_locals.specs.Typed.{Typed, FieldStep, MethodOf, Selected}
use Rattle.argot_lower_locals.specs.Nodes.{kind, kids, stands_in, all_nodes, node_count}
use Rattle.argot_lower_locals.specs.Types.{value_form, form, step_type, is_pointer, is_array}
use Rattle.argot_lower_locals.specs.Names.{Meaning, Local, meaning, selected}
use Rattle.argot_lower_locals.specs.Functions.{is_captured, is_deferred_result}

-- a local variable of which an expression is a part, and whether an element of an array is gone through
pub record Root : Type 0 where
  pub decl : ℕ
  pub element : Bool

abbrev pub root_of_name : Meaning → Option Root
root_of_name (Local d) = Some (record { decl = d; element = false })
root_of_name _ = None

abbrev pub through_element : Option Root → Option Root
through_element None = None
through_element (Some r) = Some (record { decl = r.decl; element = true })

abbrev pub is_pointer_step : Typed → FieldStep → Bool
is_pointer_step t s = is_pointer (form t (step_type t s))

-- a field before the last one is a pointer
abbrev pub is_pointer_before_last : Typed → List FieldStep → Bool
is_pointer_before_last t [] = false
is_pointer_before_last t (s ∷ []) = false
is_pointer_before_last t (s ∷ r ∷ ss) = is_pointer_step t s || is_pointer_before_last t (r ∷ ss)

-- a selector of a field goes through a pointer
abbrev pub is_indirect : Typed → ℕ → List FieldStep → Bool
is_indirect t x steps = is_pointer (value_form t x) || is_pointer_before_last t steps

-- a selector of a method does, also where the last embedded field is one
abbrev pub is_indirect_method : Typed → ℕ → List FieldStep → Bool
is_indirect_method t x steps = is_pointer (value_form t x) || list_any (is_pointer_step t) steps

-- the root of a field of x
abbrev pub root_of_field : Typed → (ℕ → Option Root) → ℕ → Option Selected → Option Root
root_of_field t again x None = None
root_of_field t again x (Some s) = of_method s.method
  where
    of_method : Option MethodOf → Option Root
    of_method (Some m) = None
    of_method None = if is_indirect t x s.steps then None else again x

abbrev pub root_of : Typed → (ℕ → Option Root) → ℕ → NodeKind → List ℕ → Option Root
root_of t again n nodes.NameUse _ = root_of_name (meaning t n)
root_of t again n nodes.DeclName _ = root_of_name (meaning t n)
root_of t again n nodes.Parens (x ∷ []) = again x
root_of t again n nodes.Selector (x ∷ m ∷ []) = root_of_field t again x (selected t n)
root_of t again n nodes.Index (x ∷ i ∷ []) = if is_array (value_form t x) then through_element (again x) else None
root_of t again n _ _ = None

abbrev pub root_within : ℕ → Typed → ℕ → Option Root
root_within zero t n = None
root_within (suc k) t n = root_of t (root_within k t) n (kind t n) (kids t n)

-- the variable that an expression is, or is a part of by fields without a pointer between and by elements of arrays
abbrev pub root : Typed → ℕ → Option Root
root t n = root_within (node_count t) t n

abbrev pub is_root : ℕ → Option Root → Bool
is_root d None = false
is_root d (Some r) = r.decl == d

abbrev pub is_root_by_element : ℕ → Option Root → Bool
is_root_by_element d None = false
is_root_by_element d (Some r) = (r.decl == d) && r.element

-- the left operands of a statement or clause that assigns
abbrev pub lefts_of : Typed → NodeKind → List ℕ → List ℕ
lefts_of t nodes.Assign (xs ∷ es ∷ []) = kids t xs
lefts_of t nodes.OpAssign (xs ∷ es ∷ []) = kids t xs
lefts_of t nodes.Define (xs ∷ es ∷ []) = kids t xs
lefts_of t nodes.Increment (x ∷ []) = x ∷ []
lefts_of t nodes.Decrement (x ∷ []) = x ∷ []
lefts_of t nodes.AssignRange (xs ∷ rest) = kids t xs
lefts_of t nodes.DefineRange (xs ∷ rest) = kids t xs
lefts_of t nodes.AssignCase (xs ∷ rest) = kids t xs
lefts_of t nodes.DefineCase (xs ∷ rest) = kids t xs
lefts_of t _ _ = []

abbrev pub lefts : Typed → ℕ → List ℕ
lefts t n = lefts_of t (kind t n) (kids t n)

-- one that declares nothing
abbrev pub is_plain_assignment : NodeKind → Bool
is_plain_assignment nodes.Define = false
is_plain_assignment nodes.DefineRange = false
is_plain_assignment nodes.DefineCase = false
is_plain_assignment _ = true

-- a method with a pointer receiver, of a variable
abbrev pub takes_by_method : Typed → ℕ → ℕ → Option Selected → Bool
takes_by_method t d x None = false
takes_by_method t d x (Some s) = by_method s.method
  where
    by_method : Option MethodOf → Bool
    by_method None = false
    by_method (Some m) = m.method.pointer && not (is_indirect_method t x s.steps) && is_root d (root t x)

abbrev pub sliced : Typed → ℕ → ℕ → Bool
sliced t d x = is_array (value_form t x) && is_root d (root t x)

-- the node takes the address of the variable or of a part of it: by `&`, by slicing an array, by a pointer method
abbrev pub takes_address : Typed → ℕ → ℕ → NodeKind → List ℕ → Bool
takes_address t d n nodes.AddressOf (x ∷ []) = is_root d (root t x)
takes_address t d n nodes.Selector (x ∷ m ∷ []) = takes_by_method t d x (selected t n)
takes_address t d n nodes.SliceAll (x ∷ is) = sliced t d x
takes_address t d n nodes.SliceFrom (x ∷ is) = sliced t d x
takes_address t d n nodes.SliceTo (x ∷ is) = sliced t d x
takes_address t d n nodes.SliceBetween (x ∷ is) = sliced t d x
takes_address t d n nodes.SliceToMax (x ∷ is) = sliced t d x
takes_address t d n nodes.SliceBetweenMax (x ∷ is) = sliced t d x
takes_address t d n _ _ = false

-- the node assigns an element of an array that the variable is or has as a part
abbrev pub assigns_element : Typed → ℕ → ℕ → Bool
assigns_element t d n = is_plain_assignment (kind t n) && list_any (λ x. is_root_by_element d (root t x)) (lefts t n)

-- the variable is an object, also where it is so in a constant expression or in code that nothing reaches
abbrev pub is_object : Typed → ℕ → Bool
is_object t d =
    is_captured t d || is_deferred_result t d || list_any (λ n. takes_address t d n (kind t n) (kids t n) || assigns_element t d n) (all_nodes t)

-- the register variable of a root
abbrev pub register_root : Typed → ℕ → Option ℕ
register_root t n = by_root (root t n)
  where
    by_root : Option Root → Option ℕ
    by_root None = None
    by_root (Some r) = if is_object t r.decl then None else Some r.decl

-- the register variables that these operands assign, whole or by a field
abbrev pub assigned_registers : Typed → List ℕ → List ℕ
assigned_registers t xs = filter_map (register_root t) xs

-- the node, or one in it, assigns the variable, whole or by a part
abbrev pub assigns : Typed → ℕ → ℕ → Bool
assigns t d n = list_any (λ x. is_root d (root t x)) (lefts t n)

abbrev pub is_assigned_in : Typed → ℕ → ℕ → Bool
is_assigned_in t whole d = list_any (λ n. ((n == whole) || stands_in t whole n) && assigns t d n) (all_nodes t)
