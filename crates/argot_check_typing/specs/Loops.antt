-- What depends on itself (Go specification: Package initialization, Type declarations). The unit is the name: `var a, b = b, 1` is
-- right, and in `var a, b = b, a` both names depend on themselves.
use Rattle.argot_check_typing.specs.Bindings.{copy_of, switch_operand, values_in, right_of, entries_in}
use Rattle.std.specs.Prelude.{◌≡◌, ℕ, Some, None}
use Rattle.argot_tree.specs.declared.node_kind.NodeKind.TheVariants as nodes
use Rattle.std.specs.List.{Contains}
use Rattle.argot_check_asking.specs.Needs.{Way}
use Rattle.argot_check_rules.specs.Rows.{Row, At}
use Rattle.argot_check_source.specs.Code.{Code, kind_at, children, parent_of, head_of, child_of, is_exprs}
use Rattle.argot_check_source.specs.Names.{decl_of}
use Rattle.argot_check_source.specs.Constants.{written_of, list_of, values_of}
use Rattle.argot_check_typing.specs.Positions.{grandparent, declaration_row, row_of}
use Rattle.argot_check_typing.specs.Types.{embedded_rows}
use Rattle.argot_check_typing.specs.Expressions.{statement_left, defines_left}
use Rattle.argot_check_typing.specs.Rules.{Needs}

-- the statement or specification by which a name without a written type gets its type, and the value that it gets it from
pub data GivesType (c : Code) : (name stmt value : ℕ) → Type 0 where
  variable : {name spec v : ℕ} → grandparent c name ≡ Some spec → kind_at c spec ≡ Some nodes.VarSpec → written_of c spec ≡ None → Contains (values_in c (values_of c spec)) v → GivesType c name spec v
  define : {name stmt v d : ℕ} → grandparent c name ≡ Some stmt → kind_at c stmt ≡ Some nodes.Define → decl_of c name ≡ Some d → Contains (values_in c (child_of c is_exprs stmt)) v → GivesType c name stmt v
  -- in a `range` or a receive
  left : {name stmt v d : ℕ} → statement_left c defines_left name ≡ Some stmt → decl_of c name ≡ Some d → right_of c stmt ≡ Some v → GivesType c name stmt v
  -- in a clause of a type switch
  operand : {name stmt v d : ℕ} → parent_of c name ≡ Some stmt → kind_at c stmt ≡ Some nodes.TypeSwitch → decl_of c name ≡ Some d → switch_operand c stmt ≡ Some v → GivesType c name stmt v
  entry : {name stmt v d : ℕ} → parent_of c name ≡ Some stmt → kind_at c stmt ≡ Some nodes.TypeSwitch → decl_of c name ≡ Some d → Contains (entries_in c name) v → GivesType c name stmt v

-- an item of the list that a specification of constants has, or the type that is written there
pub data IsOfList (c : Code) (spec : ℕ) : ℕ → Type 0 where
  item : {list n : ℕ} → list_of c spec ≡ Some list → Contains (values_in c (values_of c list)) n → IsOfList c spec n
  type_ : {list n : ℕ} → list_of c spec ≡ Some list → written_of c list ≡ Some n → IsOfList c spec n

-- the row is that of a type's declaration
abbrev pub IsDeclared : Code → Row → Type 0
IsDeclared c row = (d : ℕ) × (declaration_row c d ≡ Some row)

-- Steps from a row to one that it needs, which may not lead back; with the node that is ill if one does, and by which rule
pub data Marked (c : Code) : Row → Row → (node rule : ℕ) → Type 0 where
  -- of a name without a written type, to its value
  value : {name stmt v : ℕ} → GivesType c name stmt v → Needs c (At name) (At v) → Marked c (At name) (At v) stmt 36
  -- of the name of a constant, to its item or the written type
  constant : {name spec n : ℕ} → grandparent c name ≡ Some spec → kind_at c spec ≡ Some nodes.ConstSpec → IsOfList c spec n → Needs c (At name) (row_of (copy_of c spec) n) → Marked c (At name) (row_of (copy_of c spec) n) spec 37
  -- of an array type, to its length
  length : {n len : ℕ} → kind_at c n ≡ Some nodes.ArrayType → head_of (children c n) ≡ Some len → Needs c (At n) (At len) → Marked c (At n) (At len) n 21
  -- of an interface type, to a type that it embeds, or to the declaration of that
  embedded : {n : ℕ} {row : Row} → kind_at c n ≡ Some nodes.InterfaceType → Contains (embedded_rows c None (children c n)) row → Needs c (At n) row → Marked c (At n) row n 25
  embedding : {n : ℕ} {row : Row} → kind_at c n ≡ Some nodes.InterfaceType → IsDeclared c row → Needs c (At n) row → Marked c (At n) row n 25

-- a way that goes through no declaration of a type without `=`
pub data Aliased (c : Code) : Row → Row → Type 0 where
  stay : {row : Row} → Aliased c row row
  onward : {row other last : Row} → (IsDeclared c row → ⊥) → Needs c row other → Aliased c other last → Aliased c row last

-- the node is ill by the rule, as something depends on itself
pub data LeadsBack (c : Code) : (node rule : ℕ) → Type 0 where
  marked : {row other : Row} {n rule : ℕ} → Marked c row other n rule → Way (Needs c) other row → LeadsBack c n rule
  -- a declaration with `=`, through no declared type
  alias : {n : ℕ} {other : Row} → kind_at c n ≡ Some nodes.AliasSpec → Needs c (At n) other → Aliased c other (At n) → LeadsBack c n 38
