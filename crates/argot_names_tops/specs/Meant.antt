-- Which declaration outside functions, and which import, a name means.
use Rattle.std.specs.Prelude.{◌≡◌, ℕ, ◌<◌, ◌≤◌, ◌⊎◌, List, Some, slice_get}
use Rattle.argot_names_rules.specs.declared.package_key.PackageKey.{PackageKey}
use Rattle.argot_names_rules.specs.Files.{SourceFiles, Place}
use Rattle.argot_names_rules.specs.PackageScope.{IsTop, IsImported}
use Rattle.argot_names_imports.specs.declared.written.Written.{Written}
use Rattle.argot_names_imports.specs.declared.reached.Reached.{Reached}

-- the declaration of the name in the package that comes first: by file, and in a file by node
pub record IsFirstTop (h : SourceFiles) (home : PackageKey) (name : List ℕ) (file node : ℕ) : Type 0 where
  pub place : Place
  pub is : IsTop h home name file node place
  pub first : (other n : ℕ) (p : Place) → IsTop h home name other n p → (file < other) ⊎ ((file ≡ other) × (node ≤ n))

-- the import of this number, which is the first one that declares the name in the file
pub record IsFirstImport (h : SourceFiles) (r : Reached) (file : ℕ) (name : List ℕ) (number : ℕ) : Type 0 where
  pub import_ : Written
  pub place : Place
  pub there : slice_get r.survey.imports.items number ≡ Some import_
  pub file_is : import_.file ≡ file
  pub is : IsImported h file name import_.node import_.path place
  pub first : (node : ℕ) (path : List ℕ) (p : Place) → IsImported h file name node path p → import_.node ≤ node
