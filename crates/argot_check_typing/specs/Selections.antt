-- What lowering asks of a typed program beside its lists: what selectors select, the method sets of types, blocks that end, and
-- the types that always have a number.
use Rattle.std.specs.Prelude.{◌≡◌, ℕ, ◌<◌, true, false, List, length, Some}
use Rattle.argot_tree.specs.declared.node_kind.NodeKind.TheVariants as nodes
use Rattle.argot_typed.specs.declared.shape.Shape.{Shape}
use Rattle.argot_check_types.specs.Types.{Basic, Ty, basic, slice, any_type}
use Rattle.argot_check_types.specs.Facts.{Value, value}
use Rattle.argot_check_types.specs.Members.{Wanted, Found, selected, method_found}
use Rattle.argot_check_types.specs.Tables.{type_at, known_of}
use Rattle.argot_check_rules.specs.Rows.{At}
use Rattle.argot_check_source.specs.Code.{Code, kind_at, children, head_of, package_of, text_of}
use Rattle.argot_check_source.specs.Terminating.{is_terminating}
use Rattle.argot_check_typing.specs.Positions.{selected_name, is_member_of_package}
use Rattle.argot_check_typing.specs.Rules.{Typed}

-- a selector of a field or method, and what it selects: the fields that are gone through, the selected one as the last, and the
-- field or method
pub record IsSelection (c : Code) (shapes : List Shape) (node : ℕ) (found : Found) : Type 0 where
  pub operand : ℕ
  pub name : ℕ
  pub of : Value
  pub is : kind_at c node ≡ Some nodes.Selector
  pub member : is_member_of_package c node ≡ false
  pub before : head_of (children c node) ≡ Some operand
  pub behind : selected_name c node ≡ Some name
  pub typed : Typed c (At operand) (value of)
  pub selects : selected (known_of shapes) (record { name = text_of c name; home = package_of c node }) of.of ≡ Some found

-- a method of that name in the method set of a type, and what selects it
abbrev pub IsInMethodSet : List Shape → ℕ → Wanted → Found → Type 0
IsInMethodSet shapes t w found = method_found (known_of shapes) w (type_at shapes t) ≡ Some found

-- a block behind which nothing runs
pub record IsEnding (c : Code) (node : ℕ) : Type 0 where
  pub is : kind_at c node ≡ Some nodes.Block
  pub ends : is_terminating c node ≡ true

-- the type has a number in the table
pub record HasNumber (shapes : List Shape) (t : Ty) : Type 0 where
  pub number : ℕ
  pub there : number < length shapes
  pub is : type_at shapes number ≡ t

-- the predeclared types, and the slice of what `print` is handed, are in each table
pub record HasStock (shapes : List Shape) : Type 0 where
  pub basics : (b : Basic) → HasNumber shapes (basic b)
  pub printed : HasNumber shapes (slice any_type)
