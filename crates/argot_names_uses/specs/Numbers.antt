-- Declarations by their numbers, and the one that a node stands for.
use Rattle.std.specs.Prelude.{◌≡◌, ℕ, List, Option, Some, slice_get}
use Rattle.argot_typed.specs.declared.program.Decl.{Decl}
use Rattle.argot_names_rules.specs.declared.package_key.PackageKey.{PackageKey}
use Rattle.argot_names_rules.specs.Files.{SourceFiles}
use Rattle.argot_names_rules.specs.Loaded.{IsThat}
use Rattle.argot_names_rules.specs.Scopes.{Declaration}
use Rattle.argot_names_rules.specs.Uses.{StandsFor}

-- the declaration has this number
pub record IsNumberOf (h : SourceFiles) (decls : List Decl) (meant : Declaration) (number : ℕ) : Type 0 where
  pub decl : Decl
  pub there : slice_get decls number ≡ Some decl
  pub is : IsThat h meant decl

-- a declaration that the claim holds of has this number
pub record IsMeantBy (Holds : Declaration → Type 0) (h : SourceFiles) (decls : List Decl) (number : ℕ) : Type 0 where
  pub meant : Declaration
  pub holds : Holds meant
  pub is : IsNumberOf h decls meant number

-- the node stands for the declaration of this number
abbrev pub StandsBy : SourceFiles → PackageKey → List Decl → (file node number : ℕ) → Type 0
StandsBy h home decls file node number = IsMeantBy (StandsFor h home file node) h decls number

-- the answer is the number that the claim holds of, where it holds of one; where something else holds it may be left out
pub record IsExactlyUnless (Otherwise : Type 0) (Holds : ℕ → Type 0) (result : Option ℕ) : Type 0 where
  pub sound : (x : ℕ) → result ≡ Some x → Holds x
  pub only : (x y : ℕ) → result ≡ Some x → Holds y → x ≡ y
  pub complete : (x : ℕ) → (Otherwise → ⊥) → Holds x → result ≡ Some x
