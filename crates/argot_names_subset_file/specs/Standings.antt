-- What names stand for, by the numbers of declarations: those of predeclared names come first, in their order.
use Rattle.std.specs.Prelude.{◌≡◌, ℕ, ◌<◌, ◌↔◌, ◌==◌, ◌||◌, if◌then◌else◌, Bool, true, List, Option, Some, None, slice_get}
use Rattle.argot_typed.specs.declared.program.Use.{Use}
use Rattle.argot_typed.specs.declared.program.Decl.{Decl}
use Rattle.argot_names_rules.specs.Lists.{In}
use Rattle.argot_names_rules.specs.declared.flag.Feature.{Feature}
use Rattle.argot_names_rules.specs.declared.flag.Feature.TheVariants as features
use Rattle.argot_names_subset_file.specs.declared.standings.Standings.{Standings}

-- the feature of a predeclared name
abbrev pub feature_numbered : ℕ → Option Feature
feature_numbered d =
    if d == 16 || d == 17 then Some features.FloatingPointType
    else if d == 18 || d == 19 then Some features.ComplexType
    else if d == 20 then Some features.Uintptr
    else if d == 21 then Some features.Comparable
    else if d == 40 then Some features.Recover
    else if d == 41 || (d == 42 || d == 43) then Some features.ComplexBuiltIn
    else None

-- a predeclared type, or a declaration whose node is the name of a type by the table
pub data IsTypeDecl (types : List Bool) (decls : List Decl) (decl : ℕ) : Type 0 where
  predeclared : decl < 22 → IsTypeDecl types decls decl
  declared : {item : Decl} {node : ℕ} → slice_get decls decl ≡ Some item → item.node ≡ Some node → slice_get types node ≡ Some true → IsTypeDecl types decls decl

-- the node of this number stands for a declaration of which the claim holds
pub record Stands (uses : List Use) (Holds : ℕ → Type 0) (node : ℕ) : Type 0 where
  pub use_ : Use
  pub among : In use_ uses
  pub at : use_.node ≡ node
  pub holds : Holds use_.decl

-- by one of the first uses
pub record StandsBefore (uses : List Use) (count : ℕ) (Holds : ℕ → Type 0) (node : ℕ) : Type 0 where
  pub use_ : Use
  pub place : ℕ
  pub below : place < count
  pub there : slice_get uses place ≡ Some use_
  pub at : use_.node ≡ node
  pub holds : Holds use_.decl

abbrev pub IsFeatured : Feature → ℕ → Type 0
IsFeatured feature decl = feature_numbered decl ≡ Some feature

-- the tables have for each node of a number what it stands for
pub record AreStandings (uses : List Use) (decls : List Decl) (types : List Bool) (s : Standings) : Type 0 where
  pub named : (node : ℕ) (feature : Feature) → slice_get s.named.items node ≡ Some (Some feature) ↔ Stands uses (IsFeatured feature) node
  pub typed : (node : ℕ) → slice_get s.typed.items node ≡ Some true ↔ Stands uses (IsTypeDecl types decls) node

-- the declaration of this number has this node
pub record IsNodeOf (decls : List Decl) (decl node : ℕ) : Type 0 where
  pub item : Decl
  pub there : slice_get decls decl ≡ Some item
  pub node_is : item.node ≡ Some node
