-- What a rule says of a row.
use Rattle.std.specs.Prelude.{ℕ, Bool, true, false, ◌||◌, List, [], ◌∷◌, Option, Some, None}
use Rattle.argot_consts.specs.declared.constants.Const.{Const}
use Rattle.argot_check_types.specs.Types.{Ty, nothing}

-- how a value stands where it is
pub data Way : Type 0 where
  -- it can only be looked at
  Plain : Way
  -- it has a place: it is addressable
  Place : Way
  -- an element of a map, which gives a second value, and to which can be assigned
  Element : Way
  -- a receive or an assertion, which give a second value
  Two : Way

pub record Value : Type 0 where
  pub of : Ty
  -- the constant that it is
  pub constant : Option Const
  pub way : Way
  -- a receive, or a call that is no constant, stands in it
  pub busy : Bool

-- the built-in functions
pub data BuiltIn : Type 0 where
  Append : BuiltIn
  Cap : BuiltIn
  Clear : BuiltIn
  Close : BuiltIn
  Copy : BuiltIn
  Delete : BuiltIn
  Len : BuiltIn
  Make : BuiltIn
  Max : BuiltIn
  Min : BuiltIn
  New : BuiltIn
  Panic : BuiltIn
  Print : BuiltIn
  Println : BuiltIn
  Recover : BuiltIn

pub data Fact : Type 0 where
  -- an expression with one value, and a variable, constant or function that is declared
  value : Value → Fact
  -- `nil`
  no_value : Fact
  -- a call with no result, or with two or more
  results : List Ty → Fact
  -- a type, or what stands for one
  kind : Ty → Fact
  -- the lone names of a built-in function and of a package
  built_in : BuiltIn → Fact
  package_name : Fact
  -- a type declaration without `=`: the type under its name
  under : Ty → Fact
  -- and whether values of it can be compared
  comparable : Bool → Fact
  -- an item of a composite literal: the types that its key and its value should have
  expects : (key value : Option Ty) → Fact
  -- all else that is as it should be
  done : Fact
  -- a name that gets no type since its statement is ill, and a literal of which no type is expected. Others can't build on
  -- it, and it is no fault
  lost : Fact
  -- ill by the rule of this number, and too wide
  ill : ℕ → Fact
  wide : Fact

-- others may build on it
abbrev pub is_typed : Fact → Bool
is_typed lost = false
is_typed (ill rule) = false
is_typed wide = false
is_typed _ = true

-- a value that is no constant, has no place, and is at hand
abbrev pub plain : Ty → Value
plain t = record { of = t; constant = None; way = Plain; busy = false }

-- a variable
abbrev pub variable : Ty → Value
variable t = record { of = t; constant = None; way = Place; busy = false }

abbrev pub constant_value : Ty → Const → Value
constant_value t c = record { of = t; constant = Some c; way = Plain; busy = false }

-- the type that the fact of a type gives
abbrev pub type_in : Fact → Ty
type_in (kind t) = t
type_in _ = nothing

-- the type of a value
abbrev pub value_type : Fact → Ty
value_type (value v) = v.of
value_type _ = nothing

abbrev pub constant_in : Fact → Option Const
constant_in (value v) = v.constant
constant_in _ = None

abbrev pub is_busy : Fact → Bool
is_busy (value v) = v.busy
is_busy _ = false

abbrev pub is_any_busy : List Fact → Bool
is_any_busy [] = false
is_any_busy (f ∷ fs) = is_busy f || is_any_busy fs

abbrev pub is_value : Fact → Bool
is_value (value v) = true
is_value _ = false

-- a value, or `nil`
abbrev pub is_operand : Fact → Bool
is_operand (value v) = true
is_operand no_value = true
is_operand _ = false

-- it has a place, or is a map's element: values can be assigned to it
abbrev pub is_assigned : Way → Bool
is_assigned Place = true
is_assigned Element = true
is_assigned _ = false

abbrev pub is_place : Way → Bool
is_place Place = true
is_place _ = false

-- it gives a second value where two are asked for
abbrev pub gives_two : Way → Bool
gives_two Element = true
gives_two Two = true
gives_two _ = false
