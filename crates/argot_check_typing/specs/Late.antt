-- Conditions that are looked at when all is typed. A node that fails one keeps its type: `type K struct { m *map[K]int }` and
-- `type N struct { *N }` are right, though each needs itself to tell.
use Rattle.std.specs.Prelude.{◌≡◌, ℕ, Bool, true, false, Some, None}
use Rattle.std.specs.List.{Contains}
use Rattle.argot_tree.specs.declared.node_kind.NodeKind.{NodeKind}
use Rattle.argot_tree.specs.declared.node_kind.NodeKind.TheVariants as nodes
use Rattle.argot_check_asking.specs.Rules.{Say}
use Rattle.argot_check_asking.specs.Needs.{Chain}
use Rattle.argot_check_types.specs.Types.{Ty, mapping, structure, pointer, interface, has_name}
use Rattle.argot_check_types.specs.Facts.{kind, comparable}
use Rattle.argot_check_types.specs.Comparable.{held_in}
use Rattle.argot_check_rules.specs.Rows.{At}
use Rattle.argot_check_rules.specs.Stages.{asks_under, asks_comparable}
use Rattle.argot_check_source.specs.Code.{Code, kind_at, children, head_of}
use Rattle.argot_check_source.specs.Names.{declarer_of}
use Rattle.argot_check_source.specs.Methods.{type_of_spec}
use Rattle.argot_check_typing.specs.Positions.{setting_of}
use Rattle.argot_check_typing.specs.Rules.{Typed, Comes}

-- values of the type can be compared, or can't
abbrev pub Compares : Code → Ty → Bool → Type 0
Compares c t b = Comes c (asks_comparable (setting_of c None) t (λ d. Say (comparable d))) (comparable b)

-- what is under the type
abbrev pub IsUnder : Code → Ty → Ty → Type 0
IsUnder c t u = Comes c (asks_under (setting_of c None) t (λ v. Say (kind v))) (kind u)

-- Rule 23: a map whose key can't be compared
pub record HasBadKey (c : Code) (n : ℕ) : Type 0 where
  pub key : Ty
  pub of : Ty
  pub is : kind_at c n ≡ Some nodes.MapType
  pub typed : Typed c (At n) (kind (mapping key of))
  pub incomparable : Compares c key false

-- the type that is written as an embedded field, behind a `*` or not, is none that may be: it has no name, it is a pointer, or
-- it is an interface behind a `*`. A name that is declared with `=` counts as what it stands for
pub data IsBadEmbedded (c : Code) : NodeKind → Ty → Type 0 where
  nameless : {it : NodeKind} {t : Ty} → has_name t ≡ false → IsBadEmbedded c it t
  of_pointer : {it : NodeKind} {t u : Ty} → IsUnder c t (pointer u) → IsBadEmbedded c it t
  of_interface : {t u : Ty} → IsUnder c t (interface u) → IsBadEmbedded c nodes.EmbeddedPointer t

abbrev pub is_embedded : NodeKind → Bool
is_embedded nodes.EmbeddedField = true
is_embedded nodes.EmbeddedPointer = true
is_embedded _ = false

-- Rule 24: a struct that is typed and has such a field
pub record HasBadEmbedded (c : Code) (n : ℕ) : Type 0 where
  pub fields : Ty
  pub is : kind_at c n ≡ Some nodes.StructType
  pub typed : Typed c (At n) (kind (structure fields))
  pub field : ℕ
  pub it : NodeKind
  pub written : ℕ
  pub of : Ty
  pub among : Contains (children c n) field
  pub kind_is : kind_at c field ≡ Some it
  pub embeds : is_embedded it ≡ true
  pub has : head_of (children c field) ≡ Some written
  pub of_written : Typed c (At written) (kind of)
  pub bad : IsBadEmbedded c it of

-- the type that is written for a declared one holds another one: at its top, as the elements of an array or as a field of a
-- struct
pub record Holds (c : Code) (d e : ℕ) : Type 0 where
  pub spec : ℕ
  pub written : ℕ
  pub of : Ty
  pub declares : declarer_of c d ≡ Some spec
  pub is : kind_at c spec ≡ Some nodes.TypeSpec
  pub has : type_of_spec c spec ≡ Some written
  pub typed : Typed c (At written) (kind of)
  pub held : Contains (held_in of) e

-- Rule 38: a declared type that holds itself, directly or through others
pub record HoldsItself (c : Code) (n : ℕ) : Type 0 where
  pub decl : ℕ
  pub declares : declarer_of c decl ≡ Some n
  pub is : kind_at c n ≡ Some nodes.TypeSpec
  pub itself : Chain (Holds c) decl decl
