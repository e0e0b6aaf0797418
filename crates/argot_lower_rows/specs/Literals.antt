-- Composite literals.
use Rattle.std.specs.Prelude.{ℕ, ◌+◌, List, [], ◌∷◌, position, slice_get, unwrap_or, bytes_eq, if◌then◌else◌}
use Rattle.argot_plain.specs.declared.instructions.Kind.TheVariants.{Join}
use Rattle.argot_text.specs.declared.path.PathStep.{PathStep}
use Rattle.argot_text.specs.declared.path.PathStep.TheVariants.{Field, Element, Key, Value}
use Rattle.argot_text.specs.declared.position.Pos.{Pos}
use Rattle.argot_tree.specs.declared.node_kind.NodeKind.{NodeKind}
use Rattle.argot_tree.specs.declared.node_kind.NodeKind.TheVariants as nodes
use Rattle.argot_typed.specs.declared.shape.FieldShape.{FieldShape}
use Rattle.argot_typed.specs.declared.shape.Shape.{Shape}
use Rattle.argot_typed.specs.declared.shape.Shape.TheVariants.{Struct, Array, Slice, Map}
use Rattle.argot_lower_scripts.specs.Script.{Script}
use Rattle.argot_lower_scripts.specs.Words.{nothing, answer, plain, new, put_at}
use Rattle.argot_lower_locals.specs.Typed.{Typed}
use Rattle.argot_lower_locals.specs.Nodes.{kind, kids, at, text_of}
use Rattle.argot_lower_locals.specs.Types.{form, leaves, value_type, value_form, element_of, is_pointer, type_in}
use Rattle.argot_lower_locals.specs.Functions.{last_of}
use Rattle.argot_lower_rows.specs.Sites.{variable_site, parts_site}
use Rattle.argot_lower_rows.specs.Conversions.{AsType, value_as}
use Rattle.argot_lower_rows.specs.Operators.{pointed}

-- the value of an item, and its key where it has one
abbrev pub item_value : Typed → ℕ → ℕ
item_value t i = unwrap_or (last_of (kids t i)) i

abbrev pub first_kid : List ℕ → ℕ
first_kid [] = 0
first_kid (n ∷ ns) = n

abbrev pub item_key : Typed → ℕ → ℕ
item_key t i = first_kid (kids t i)

abbrev pub field_named : List FieldShape → List ℕ → ℕ
field_named fields name = unwrap_or (position (λ (f : FieldShape). bytes_eq f.name name) fields) 0

-- the field of an item: that of its key, else the next one in order
abbrev pub item_field : Typed → List FieldShape → ℕ → ℕ → NodeKind → ℕ
item_field t fields k i nodes.KeyedItem = field_named fields (text_of t (item_key t i))
item_field t fields k i _ = k

-- the items of a struct from number k on
abbrev pub field_parts : Typed → List FieldShape → ℕ → List ℕ → (List (List PathStep × ℕ) → Script) → Script
field_parts t fields k [] c = c []
field_parts t fields k (i ∷ is) c =
    value_as t (item_value t i) (AsType (type_in t (slice_get fields (item_field t fields k i (kind t i))))) (λ a.
    field_parts t fields (k + 1) is (λ parts.
    c ((Field (item_field t fields k i (kind t i)) ∷ [], a) ∷ parts)))

-- the items of an array; index keys have no instruction
abbrev pub element_parts : Typed → ℕ → List ℕ → (List (List PathStep × ℕ) → Script) → Script
element_parts t of [] c = c []
element_parts t of (i ∷ is) c = value_as t (item_value t i) (AsType of) (λ a. element_parts t of is (λ parts. c ((Element ∷ [], a) ∷ parts)))

-- the items of a slice: a = element; p := Step r []; Write p a
abbrev pub slice_items : Typed → Pos → ℕ → ℕ → List ℕ → Script → Script
slice_items t p of r [] c = c
slice_items t p of r (i ∷ is) c = value_as t (item_value t i) (AsType of) (λ a. put_at p r Element a (slice_items t p of r is c))

-- the items of a map: key, value; p := Step r {k}; Write p k; q := Step r {v}; Write q v
abbrev pub map_items : Typed → Pos → ℕ → ℕ → ℕ → List ℕ → Script → Script
map_items t p key of r [] c = c
map_items t p key of r (i ∷ is) c =
    value_as t (item_key t i) (AsType key) (λ k.
    value_as t (item_value t i) (AsType of) (λ v.
    put_at p r Key k (
    put_at p r Value v (
    map_items t p key of r is c))))

-- a literal of the type x
abbrev pub literal_of : Typed → Pos → ℕ → List ℕ → Shape → (ℕ → Script) → Script
literal_of t p x items (Struct fields) k = field_parts t fields 0 items (λ parts. plain p (leaves t x) (λ r. Join r parts) k)
literal_of t p x items (Array len of) k = element_parts t of.0 items (λ parts. plain p (leaves t x) (λ r. Join r parts) k)
literal_of t p x items (Slice of) k = new p (parts_site t x) (λ r. slice_items t p of.0 r items (k r))
literal_of t p x items (Map key value) k = new p (parts_site t x) (λ r. map_items t p key.0 value.0 r items (k r))
literal_of t p x items _ k = nothing

abbrev pub literal : Typed → Pos → ℕ → List ℕ → (ℕ → Script) → Script
literal t p x items k = literal_of t p x items (form t x) k

-- T{..}, with the items of its braces
abbrev pub composite_row : Typed → ℕ → ℕ → Script
composite_row t n braces = literal t (at t n) (value_type t n) (kids t braces) answer

-- {..} as an element, whose type may be a pointer to the literal's
abbrev pub braces_row : Typed → ℕ → Script
braces_row t n =
    if is_pointer (value_form t n) then literal t (at t n) (element_of (value_form t n)) (kids t n) (λ v. pointed (at t n) (variable_site t (element_of (value_form t n))) v answer)
    else literal t (at t n) (value_type t n) (kids t n) answer

-- &T{..}: v = literal; r := New; Write r v, both at `&`
abbrev pub address_of_literal_row : Typed → ℕ → ℕ → ℕ → Script
address_of_literal_row t n x braces = literal t (at t x) (value_type t x) (kids t braces) (λ v. pointed (at t n) (variable_site t (value_type t x)) v answer)
