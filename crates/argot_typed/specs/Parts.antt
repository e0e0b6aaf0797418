-- The types that stand in a shape.
use Rattle.std.specs.Prelude.{ℕ, List, [], ◌∷◌, ◌++◌, length, slice_index_or}
use Rattle.argot_typed.specs.declared.shape.TypeId.{TypeId}
use Rattle.argot_typed.specs.declared.shape.FieldShape.{FieldShape}
use Rattle.argot_typed.specs.declared.shape.MethodShape.{MethodShape}
use Rattle.argot_typed.specs.declared.shape.Shape.{Shape}
use Rattle.argot_typed.specs.declared.shape.Shape.TheVariants.{Named, Pointer, Array, Slice, Map, Struct, Func, Interface, Chan, Untyped, NilShape}

-- the shape of a type; past the table's end that of `nil`
abbrev pub shape_at : List Shape → ℕ → Shape
shape_at shapes t = slice_index_or shapes t NilShape

abbrev pub types_of_fields : List FieldShape → List ℕ
types_of_fields [] = []
types_of_fields (f ∷ fs) = f.of.0 ∷ types_of_fields fs

abbrev pub types_of_methods : List MethodShape → List ℕ
types_of_methods [] = []
types_of_methods (m ∷ ms) = m.of.0 ∷ types_of_methods ms

abbrev pub numbers_of : List TypeId → List ℕ
numbers_of [] = []
numbers_of (t ∷ ts) = t.0 ∷ numbers_of ts

-- all of them
abbrev pub parts_of : Shape → List ℕ
parts_of (Named decl under methods) = under.0 ∷ types_of_methods methods
parts_of (Pointer to) = to.0 ∷ []
parts_of (Array len of) = of.0 ∷ []
parts_of (Slice of) = of.0 ∷ []
parts_of (Map key value) = key.0 ∷ value.0 ∷ []
parts_of (Struct fields) = types_of_fields fields
parts_of (Func params results variadic) = numbers_of params ++ numbers_of results
parts_of (Interface methods) = types_of_methods methods
parts_of (Chan dir of) = of.0 ∷ []
parts_of (Untyped normal) = normal.0 ∷ []
parts_of _ = []

-- those that a value of the type holds by value: the type under a name, an array's elements, a struct's fields
abbrev pub held_by : Shape → List ℕ
held_by (Named decl under methods) = under.0 ∷ []
held_by (Array len of) = of.0 ∷ []
held_by (Struct fields) = types_of_fields fields
held_by _ = []

-- those that are reached without going through a declared type
abbrev pub unnamed_parts_of : Shape → List ℕ
unnamed_parts_of (Named decl under methods) = []
unnamed_parts_of s = parts_of s

abbrev pub field_count : Shape → ℕ
field_count (Struct fields) = length fields
field_count _ = 0
