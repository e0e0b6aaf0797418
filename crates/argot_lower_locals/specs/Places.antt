-- Which expressions have a place, which have their value in a variable's own register, and what a place expression goes through.
use Rattle.std.specs.Prelude.{ℕ, zero, suc, ◌==◌, Bool, true, false, ◌&&◌, ◌||◌, List, [], ◌∷◌, ◌++◌, find, Option, Some, None, if◌then◌else◌}
use Rattle.argot_plain.specs.declared.functions.Ident.{Ident}
use Rattle.argot_plain.specs.declared.instructions.Tag.{Tag}
use Rattle.argot_tree.specs.declared.node_kind.NodeKind.{NodeKind}
use Rattle.argot_tree.specs.declared.node_kind.NodeKind.TheVariants as nodes
use Rattle.argot_typed.specs.declared.shape.FieldShape.{FieldShape}
use Rattle.argot_typed.specs.declared.shape.Shape.{Shape}
use Rattle.argot_typed.specs.declared.shape.Shape.TheVariants.{Named, Pointer, Array, Slice}
use Rattle.argot_lower_locals.specs.Typed.{Typed, FieldStep, MethodOf, Selected}
use Rattle.argot_lower_locals.specs.Nodes.{node, kind, kids, strip, all_nodes, node_count}
use Rattle.argot_lower_locals.specs.Types.{type_at, shape, value_form, field_of, is_pointer, is_array}
use Rattle.argot_lower_locals.specs.Names.{Meaning, Local, Global, meaning, selected, decl_name, decl_path, optional_path, package_of_file}
use Rattle.argot_lower_locals.specs.Variables.{is_pointer_step, is_indirect, is_object}

abbrev pub has_name_place : Typed → Meaning → Bool
has_name_place t (Local d) = is_object t d
has_name_place t (Global d) = true
has_name_place t _ = false

abbrev pub has_field_place : Typed → (ℕ → Bool) → ℕ → Option Selected → Bool
has_field_place t again x None = false
has_field_place t again x (Some s) = of_method s.method
  where
    of_method : Option MethodOf → Bool
    of_method (Some m) = false
    of_method None = is_indirect t x s.steps || again x

abbrev pub has_element_place : (ℕ → Bool) → ℕ → Shape → Bool
has_element_place again x (Slice of) = true
has_element_place again x (Pointer to) = true
has_element_place again x (Array len of) = again x
has_element_place again x _ = false

abbrev pub has_place_by : Typed → (ℕ → Bool) → ℕ → NodeKind → List ℕ → Bool
has_place_by t again n nodes.NameUse _ = has_name_place t (meaning t n)
has_place_by t again n nodes.DeclName _ = has_name_place t (meaning t n)
has_place_by t again n nodes.Parens (x ∷ []) = again x
has_place_by t again n nodes.Selector (x ∷ m ∷ []) = has_name_place t (meaning t n) || has_field_place t again x (selected t n)
has_place_by t again n nodes.Index (x ∷ i ∷ []) = has_element_place again x (value_form t x)
has_place_by t again n nodes.Deref _ = true
has_place_by t again n _ _ = false

abbrev pub has_place_within : ℕ → Typed → ℕ → Bool
has_place_within zero t n = false
has_place_within (suc k) t n = has_place_by t (has_place_within k t) n (kind t n) (kids t n)

-- a package variable, an object, a field or array element of what has a place, what a pointer or slice leads to
abbrev pub has_place : Typed → ℕ → Bool
has_place t n = has_place_within (node_count t) t n

abbrev pub held_by_name : Typed → Meaning → Option ℕ
held_by_name t (Local d) = if is_object t d then None else Some d
held_by_name t _ = None

abbrev pub held_behind : Typed → (ℕ → Option ℕ) → NodeKind → List ℕ → Option ℕ
held_behind t again nodes.Deref (x ∷ []) = again x
held_behind t again _ _ = None

abbrev pub held_of : Typed → (ℕ → Option ℕ) → ℕ → NodeKind → List ℕ → Option ℕ
held_of t again n nodes.NameUse _ = held_by_name t (meaning t n)
held_of t again n nodes.Parens (x ∷ []) = again x
held_of t again n nodes.AddressOf (x ∷ []) = held_behind t again (kind t (strip t x)) (kids t (strip t x))
held_of t again n _ _ = None

abbrev pub held_within : ℕ → Typed → ℕ → Option ℕ
held_within zero t n = None
held_within (suc k) t n = held_of t (held_within k t) n (kind t n) (kids t n)

-- the register variable in whose own register the value is: that of a name, and of `p` in `&*p`
abbrev pub held : Typed → ℕ → Option ℕ
held t n = held_within (node_count t) t n

abbrev pub is_struct_type : NodeKind → Bool
is_struct_type nodes.StructType = true
is_struct_type _ = false

abbrev pub file_of : Typed → Option ℕ → ℕ
file_of t None = 0
file_of t (Some n) = (node t n).file

-- the path of the package in which a struct type without a name stands first
abbrev pub struct_path : Typed → ℕ → List ℕ
struct_path t x = optional_path t (package_of_file t (file_of t (find (λ n. is_struct_type (kind t n) && (type_at t n == x)) (all_nodes t))))

abbrev pub field_name : Option FieldShape → List ℕ
field_name None = []
field_name (Some f) = f.name

abbrev pub field_ident : Typed → FieldStep → Shape → Ident
field_ident t s (Named decl under methods) = record { «package» = decl_path t decl; receiver = decl_name t decl; name = field_name (field_of t s) }
field_ident t s _ = record { «package» = struct_path t s.of; receiver = []; name = field_name (field_of t s) }

-- the tag of a field
abbrev pub field_tag : Typed → FieldStep → Tag
field_tag t s = record { global = false; ident = field_ident t s (shape t s.of) }

-- the tag of a package variable
abbrev pub variable_tag : Typed → ℕ → Tag
variable_tag t d = record { global = true; ident = record { «package» = decl_path t d; receiver = []; name = decl_name t d } }

-- behind these fields: a pointer that isn't the last of them is read, and the place expression begins anew
abbrev pub tags_along : Typed → List Tag → List FieldStep → List Tag
tags_along t tags [] = tags
tags_along t tags (s ∷ []) = tags ++ field_tag t s ∷ []
tags_along t tags (s ∷ r ∷ ss) = tags_along t (if is_pointer_step t s then [] else tags ++ field_tag t s ∷ []) (r ∷ ss)

-- the tags with which a walk from x begins
abbrev pub tags_before : Typed → (ℕ → List Tag) → ℕ → List Tag
tags_before t again x = if is_pointer (value_form t x) then [] else again x

abbrev pub tags_of_name : Typed → Meaning → List Tag
tags_of_name t (Global d) = variable_tag t d ∷ []
tags_of_name t _ = []

abbrev pub tags_of_field : Typed → (ℕ → List Tag) → ℕ → Option Selected → List Tag
tags_of_field t again x None = []
tags_of_field t again x (Some s) = of_method s.method
  where
    of_method : Option MethodOf → List Tag
    of_method (Some m) = []
    of_method None = tags_along t (tags_before t again x) s.steps

abbrev pub tags_by : Typed → (ℕ → List Tag) → ℕ → NodeKind → List ℕ → List Tag
tags_by t again n nodes.NameUse _ = tags_of_name t (meaning t n)
tags_by t again n nodes.DeclName _ = tags_of_name t (meaning t n)
tags_by t again n nodes.Parens (x ∷ []) = again x
tags_by t again n nodes.Selector (x ∷ m ∷ []) = tags_of_name t (meaning t n) ++ tags_of_field t again x (selected t n)
tags_by t again n nodes.Index (x ∷ i ∷ []) = if is_array (value_form t x) then again x else []
tags_by t again n _ _ = []

abbrev pub tags_within : ℕ → Typed → ℕ → List Tag
tags_within zero t n = []
tags_within (suc k) t n = tags_by t (tags_within k t) n (kind t n) (kids t n)

-- the fields and package variables that a place expression goes through since the reference that it follows was read
abbrev pub tags : Typed → ℕ → List Tag
tags t n = tags_within (node_count t) t n

-- the tags of x as the start of a walk
abbrev pub start_tags : Typed → ℕ → List Tag
start_tags t x = tags_before t (tags t) x
