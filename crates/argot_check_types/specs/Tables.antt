-- The types of a table, as trees, and what the table tells of declared types.
use Rattle.std.specs.Prelude.{ℕ, zero, suc, Bool, false, ◌==◌, List, [], ◌∷◌, length, Option, Some, None, if◌then◌else◌}
use Rattle.argot_typed.specs.declared.shape.TypeId.{TypeId}
use Rattle.argot_typed.specs.declared.shape.FieldShape.{FieldShape}
use Rattle.argot_typed.specs.declared.shape.MethodShape.{MethodShape}
use Rattle.argot_typed.specs.declared.shape.Shape.{Shape}
use Rattle.argot_typed.specs.declared.shape.Shape.TheVariants.{Truth, Chars, Whole, Named, Pointer, Array, Slice, Map, Struct, Func, Interface, Chan, Untyped, NilShape}
use Rattle.argot_typed.specs.Parts.{shape_at}
use Rattle.argot_check_types.specs.Types.{Basic, bool, string, int, int8, int16, int32, int64, uint, uint8, uint16, uint32, uint64, error, Ty, truth, chars, whole, basic, named, pointer, array, slice, mapping, channel, structure, function, interface, untyped, nil, field, method, also, nothing}
use Rattle.argot_check_types.specs.Known.{Method, Known}

-- the predeclared types by the numbers of their declarations; `byte`, `rune` and `any` stand for others
abbrev pub numbered : List Ty
numbered =
    basic bool ∷ basic string ∷ basic int ∷ basic int8 ∷ basic int16 ∷ basic int32 ∷ basic int64 ∷ basic uint
    ∷ basic uint8 ∷ basic uint16 ∷ basic uint32 ∷ basic uint64 ∷ basic uint8 ∷ basic int32 ∷ basic error ∷ interface nothing ∷ []

abbrev pub item_or : {A : Type 0} → A → List A → ℕ → A
item_or x [] n = x
item_or x (y ∷ ys) zero = y
item_or x (y ∷ ys) (suc n) = item_or x ys n

-- the type of a declaration
abbrev pub declared_type : ℕ → Ty
declared_type d = item_or (named d) numbered d

abbrev pub basic_in : Ty → Basic
basic_in (basic b) = b
basic_in _ = bool

abbrev pub structure_fields : (ℕ → Ty) → List FieldShape → Ty
structure_fields part [] = nothing
structure_fields part (f ∷ fs) = field f.name f.«package» f.tag f.embedded (part f.of.0) (structure_fields part fs)

abbrev pub interface_methods : (ℕ → Ty) → List MethodShape → Ty
interface_methods part [] = nothing
interface_methods part (m ∷ ms) = method m.name m.«package» (part m.of.0) (interface_methods part ms)

abbrev pub list_of_types : (ℕ → Ty) → List TypeId → Ty
list_of_types part [] = nothing
list_of_types part (t ∷ ts) = also (part t.0) (list_of_types part ts)

-- the type of a shape, where `part` gives those of its parts
abbrev pub type_of_shape : (ℕ → Ty) → Shape → Ty
type_of_shape part Truth = truth
type_of_shape part Chars = chars
type_of_shape part (Whole bits signed) = whole bits signed
type_of_shape part (Named decl under methods) = declared_type decl
type_of_shape part (Pointer to) = pointer (part to.0)
type_of_shape part (Array len of) = array len (part of.0)
type_of_shape part (Slice of) = slice (part of.0)
type_of_shape part (Map key value) = mapping (part key.0) (part value.0)
type_of_shape part (Struct fields) = structure (structure_fields part fields)
type_of_shape part (Func params results variadic) = function (list_of_types part params) (list_of_types part results) variadic
type_of_shape part (Interface methods) = interface (interface_methods part methods)
type_of_shape part (Chan dir of) = channel dir (part of.0)
type_of_shape part (Untyped normal) = untyped (basic_in (part normal.0))
type_of_shape part NilShape = nil

-- where walks by parts that go through no declared type have fewer than k steps
abbrev pub type_within : ℕ → List Shape → ℕ → Ty
type_within zero shapes t = nothing
type_within (suc k) shapes t = type_of_shape (type_within k shapes) (shape_at shapes t)

-- the type of a number. No walk by parts of a table that fits goes through as many types as the table has and leaves out
-- declared ones
unfoldable pub type_at : List Shape → ℕ → Ty
type_at shapes t = type_within (suc (length shapes)) shapes t

-- the number of the first shape of a declared type
abbrev pub is_named_by : ℕ → Shape → Bool
is_named_by d (Named decl under methods) = d == decl
is_named_by d _ = false

abbrev pub under_of : Shape → Option ℕ
under_of (Named decl under methods) = Some under.0
under_of _ = None

abbrev pub methods_in : Shape → List MethodShape
methods_in (Named decl under methods) = methods
methods_in _ = []

abbrev pub shape_named : ℕ → List Shape → Shape
shape_named d [] = NilShape
shape_named d (s ∷ ss) = if is_named_by d s then s else shape_named d ss

abbrev pub type_if : List Shape → Option ℕ → Option Ty
type_if shapes None = None
type_if shapes (Some t) = Some (type_at shapes t)

-- the declared methods among those of a shape; each has a node
abbrev pub declared_methods : List MethodShape → List Method
declared_methods [] = []
declared_methods (m ∷ ms) = elim m.node [ None ↦ declared_methods ms | Some n ↦ record { name = m.name; home = m.«package»; node = n; pointer = m.pointer } ∷ declared_methods ms ]

abbrev pub is_node : ℕ → Option ℕ → Bool
is_node n None = false
is_node n (Some m) = n == m

-- the type of the method that has a node
abbrev pub method_type : ℕ → List MethodShape → Option ℕ
method_type n [] = None
method_type n (m ∷ ms) = if is_node n m.node then Some m.of.0 else method_type n ms

abbrev pub either : Option ℕ → Option ℕ → Option ℕ
either (Some a) b = Some a
either None b = b

abbrev pub declared_method_type : ℕ → List Shape → Option ℕ
declared_method_type n [] = None
declared_method_type n (s ∷ ss) = either (method_type n (methods_in s)) (declared_method_type n ss)

-- what a table tells of declared types
abbrev pub known_of : List Shape → Known
known_of shapes =
    record {
      under = λ d. type_if shapes (under_of (shape_named d shapes));
      methods = λ d. declared_methods (methods_in (shape_named d shapes));
      signature = λ n. type_if shapes (declared_method_type n shapes);
      depth = suc (length shapes);
    }
