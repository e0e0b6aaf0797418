-- The types of nodes, and what a type is made of.
use Rattle.std.specs.Prelude.{ℕ, zero, suc, Bool, true, false, List, [], ◌∷◌, ◌++◌, map, length, position, Option, Some, None, slice_get, unwrap_or}
use Rattle.argot_text.specs.declared.path.PathStep.{PathStep}
use Rattle.argot_text.specs.declared.path.PathStep.TheVariants.{Element, Key, Value, Channel}
use Rattle.argot_typed.specs.declared.program.NodeType.{NodeType}
use Rattle.argot_typed.specs.declared.shape.FieldShape.{FieldShape}
use Rattle.argot_typed.specs.declared.shape.MethodShape.{MethodShape}
use Rattle.argot_typed.specs.declared.shape.Shape.{Shape}
use Rattle.argot_typed.specs.declared.shape.Shape.TheVariants.{Chars, Whole, Named, Pointer, Array, Slice, Map, Struct, Func, Interface, Chan, Untyped, NilShape}
use Rattle.argot_typed.specs.Parts.{shape_at, numbers_of}
use Rattle.argot_typed.specs.Leaves.{leaves_of}
use Rattle.argot_lower_scripts.specs.Script.{Leaves}
use Rattle.argot_lower_locals.specs.Typed.{Typed, FieldStep}
use Rattle.argot_lower_locals.specs.Nodes.{strip}

abbrev pub parts_in : Option NodeType → List ℕ
parts_in None = []
parts_in (Some item) = numbers_of item.parts

-- the types of a node: one for a value or a type, one for each result of a call
abbrev pub types_at : Typed → ℕ → List ℕ
types_at t n = parts_in (slice_get t.program.types n)

-- the first of these types; where there is none a number that no type has
abbrev pub one_type : Typed → List ℕ → ℕ
one_type t [] = length t.program.table
one_type t (x ∷ xs) = x

abbrev pub type_at : Typed → ℕ → ℕ
type_at t n = one_type t (types_at t n)

abbrev pub shape : Typed → ℕ → Shape
shape t x = shape_at t.program.table x

-- the form under a declared type
abbrev pub form_of : (ℕ → Shape) → Shape → Shape
form_of again (Named decl under methods) = again under.0
form_of again s = s

abbrev pub form_within : ℕ → List Shape → ℕ → Shape
form_within zero shapes x = NilShape
form_within (suc k) shapes x = form_of (form_within k shapes) (shape_at shapes x)

-- the form of a type, names of declared types left out
abbrev pub form : Typed → ℕ → Shape
form t x = form_within (suc (length t.program.table)) t.program.table x

-- a type, and the default type of an untyped one
abbrev pub normal_of : ℕ → Shape → ℕ
normal_of x (Untyped normal) = normal.0
normal_of x s = x

abbrev pub normal : Typed → ℕ → ℕ
normal t x = normal_of x (shape t x)

-- the type of a value
abbrev pub value_type : Typed → ℕ → ℕ
value_type t n = normal t (type_at t (strip t n))

-- the types of a call's results, or of one value
abbrev pub value_types : Typed → ℕ → List ℕ
value_types t n = map (normal t) (types_at t (strip t n))

-- the form of a value's type
abbrev pub value_form : Typed → ℕ → Shape
value_form t n = form t (value_type t n)

abbrev pub leaves : Typed → ℕ → Leaves
leaves t x = leaves_of t.program.table x

abbrev pub leaves_at : Typed → ℕ → Leaves
leaves_at t n = leaves t (value_type t n)

abbrev pub is_interface : Shape → Bool
is_interface (Interface methods) = true
is_interface _ = false

abbrev pub is_pointer : Shape → Bool
is_pointer (Pointer to) = true
is_pointer _ = false

abbrev pub is_array : Shape → Bool
is_array (Array len of) = true
is_array _ = false

abbrev pub is_slice : Shape → Bool
is_slice (Slice of) = true
is_slice _ = false

abbrev pub is_map : Shape → Bool
is_map (Map key value) = true
is_map _ = false

abbrev pub is_text : Shape → Bool
is_text Chars = true
is_text _ = false

abbrev pub is_whole : Shape → Bool
is_whole (Whole bits signed) = true
is_whole _ = false

abbrev pub is_struct : Shape → Bool
is_struct (Struct fields) = true
is_struct _ = false

abbrev pub is_channel : Shape → Bool
is_channel (Chan dir of) = true
is_channel _ = false

-- `any`: the interface without methods and without a name
abbrev pub is_any : Shape → Bool
is_any (Interface []) = true
is_any _ = false

-- what the form holds: the elements of an array, slice or channel, the values of a map, what a pointer points to
abbrev pub element_of : Shape → ℕ
element_of (Pointer to) = to.0
element_of (Array len of) = of.0
element_of (Slice of) = of.0
element_of (Map key value) = value.0
element_of (Chan dir of) = of.0
element_of _ = 0

abbrev pub key_of : Shape → ℕ
key_of (Map key value) = key.0
key_of _ = 0

abbrev pub params_of : Shape → List ℕ
params_of (Func params results variadic) = numbers_of params
params_of _ = []

abbrev pub results_of : Shape → List ℕ
results_of (Func params results variadic) = numbers_of results
results_of _ = []

abbrev pub is_variadic : Shape → Bool
is_variadic (Func params results variadic) = variadic
is_variadic _ = false

abbrev pub fields_of : Shape → List FieldShape
fields_of (Struct fields) = fields
fields_of _ = []

abbrev pub methods_of : Shape → List MethodShape
methods_of (Interface methods) = methods
methods_of _ = []

abbrev pub behind : PathStep → Leaves → Leaves
behind step ls = map (λ path. step ∷ path) ls

-- what an object of a slice, map or channel type holds
abbrev pub shape_of_parts : Typed → Shape → Leaves
shape_of_parts t (Slice of) = behind Element (leaves t of.0)
shape_of_parts t (Map key value) = behind Key (leaves t key.0) ++ behind Value (leaves t value.0)
shape_of_parts t (Chan dir of) = behind Channel (leaves t of.0)
shape_of_parts t _ = []

-- the field of a step, where the type has it
abbrev pub field_of : Typed → FieldStep → Option FieldShape
field_of t s = slice_get (fields_of (form t s.of)) s.field

abbrev pub type_in : Typed → Option FieldShape → ℕ
type_in t None = length t.program.table
type_in t (Some f) = f.of.0

-- the type of a step's field
abbrev pub step_type : Typed → FieldStep → ℕ
step_type t s = type_in t (field_of t s)

-- the number of the type `[]any`
abbrev pub is_slice_of_any : Typed → Shape → Bool
is_slice_of_any t (Slice of) = is_any (shape t of.0)
is_slice_of_any t _ = false

abbrev pub slice_of_any : Typed → ℕ
slice_of_any t = unwrap_or (position (is_slice_of_any t) t.program.table) (length t.program.table)
