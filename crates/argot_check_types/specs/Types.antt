-- Types as finite trees. A declared type is a leaf with the number of its declaration, and is never unfolded, so that
-- types that lead back to themselves are finite too (Go specification: Types, Predeclared identifiers).
use Rattle.std.specs.Prelude.{ℕ, Bool, true, false, List, [], ◌∷◌, Option, None, codes}
use Rattle.argot_typed.specs.declared.shape.Dir.{Dir}

-- the predeclared types that have a name of their own: `byte` is `uint8`, `rune` is `int32`, and `any` is the interface
-- without methods
pub data Basic : Type 0 where
  bool : Basic
  string : Basic
  int : Basic
  int8 : Basic
  int16 : Basic
  int32 : Basic
  int64 : Basic
  uint : Basic
  uint8 : Basic
  uint16 : Basic
  uint32 : Basic
  uint64 : Basic
  error : Basic

-- The last four constructors are lists of fields, of methods and of types, as parts of the types that have them. A field's
-- or a method's home is the package in which it can be named, and is there only where its name isn't exported. The
-- methods of an interface stand in order of name and then of home.
pub data Ty : Type 0 where
  -- what stands under predeclared types
  truth : Ty
  chars : Ty
  whole : (bits : ℕ) → (signed : Bool) → Ty
  -- a predeclared type, and a declared one
  basic : Basic → Ty
  named : (decl : ℕ) → Ty
  pointer : (to : Ty) → Ty
  array : (len : ℕ) → (of : Ty) → Ty
  slice : (of : Ty) → Ty
  mapping : (key value : Ty) → Ty
  channel : (dir : Dir) → (of : Ty) → Ty
  structure : (fields : Ty) → Ty
  -- the last parameter of a variadic function has the slice type
  function : (params results : Ty) → (variadic : Bool) → Ty
  interface : (methods : Ty) → Ty
  -- constants and truth values without a type, by their default type
  untyped : (normal : Basic) → Ty
  nil : Ty
  field : (name : List ℕ) → (home : Option ℕ) → (tag : List ℕ) → (embedded : Bool) → (of rest : Ty) → Ty
  method : (name : List ℕ) → (home : Option ℕ) → (of rest : Ty) → Ty
  also : (of rest : Ty) → Ty
  nothing : Ty

abbrev pub bool_type : Ty
bool_type = basic bool

abbrev pub string_type : Ty
string_type = basic string

abbrev pub int_type : Ty
int_type = basic int

abbrev pub byte_type : Ty
byte_type = basic uint8

abbrev pub rune_type : Ty
rune_type = basic int32

abbrev pub any_type : Ty
any_type = interface nothing

-- what stands under `error`: one method that gives a text
abbrev pub under_error : Ty
under_error = interface (method (codes "Error") None (function nothing (also string_type nothing) false) nothing)

-- the type under a predeclared one
abbrev pub under_basic : Basic → Ty
under_basic bool = truth
under_basic string = chars
under_basic int = whole 64 true
under_basic int8 = whole 8 true
under_basic int16 = whole 16 true
under_basic int32 = whole 32 true
under_basic int64 = whole 64 true
under_basic uint = whole 64 false
under_basic uint8 = whole 8 false
under_basic uint16 = whole 16 false
under_basic uint32 = whole 32 false
under_basic uint64 = whole 64 false
under_basic error = under_error

-- the types of a list
abbrev pub types_in : Ty → List Ty
types_in (also t rest) = t ∷ types_in rest
types_in _ = []

-- the list of types
abbrev pub listed : List Ty → Ty
listed [] = nothing
listed (t ∷ ts) = also t (listed ts)

-- the type has a name: it is declared, or predeclared
abbrev pub has_name : Ty → Bool
has_name (basic b) = true
has_name (named d) = true
has_name _ = false

abbrev pub is_untyped : Ty → Bool
is_untyped (untyped b) = true
is_untyped _ = false

-- the type that an untyped constant or truth value has where nothing else is asked for
abbrev pub default_type : Ty → Ty
default_type (untyped b) = basic b
default_type t = t

-- the type behind a pointer, or the type itself
abbrev pub behind_pointer : Ty → Ty
behind_pointer (pointer t) = t
behind_pointer t = t

abbrev pub is_pointer : Ty → Bool
is_pointer (pointer t) = true
is_pointer _ = false

abbrev pub is_interface : Ty → Bool
is_interface (interface t) = true
is_interface _ = false

-- whole numbers, texts, truth values, by the type under theirs
abbrev pub is_whole : Ty → Bool
is_whole (whole bits signed) = true
is_whole _ = false

abbrev pub is_text : Ty → Bool
is_text chars = true
is_text _ = false

abbrev pub is_truth : Ty → Bool
is_truth truth = true
is_truth _ = false
