-- The package that a name before a dot means.
use Rattle.std.specs.Prelude.{◌≡◌, ℕ, List, Option, Some, None, slice_get}
use Rattle.argot_names_rules.specs.declared.package_key.PackageKey.{PackageKey}
use Rattle.argot_names_rules.specs.Files.{SourceFiles}
use Rattle.argot_names_rules.specs.Imports.{IsReachedFile}
use Rattle.argot_names_rules.specs.Uses.{IsOfPackage}
use Rattle.argot_names_imports.specs.declared.written.Written.{Written}
use Rattle.argot_names_scopes.specs.declared.file.FileNames.{FileNames}
use Rattle.argot_names_imports.specs.declared.reached.Reached.{Reached}
use Rattle.argot_names_tops.specs.declared.tops.Tops.{Tops}
use Rattle.argot_names_tops.specs.Tops.{IsNamesOf, AreTops}

-- the names are those of a file of a package that is reached
pub record StandsAt (h : SourceFiles) (main : List ℕ) (r : Reached) (home : PackageKey) (tops : Tops) (names : FileNames) (file : ℕ) : Type 0 where
  pub tops_are : AreTops h main r tops
  pub names_are : IsNamesOf h file names
  pub reached : IsReachedFile h main home file

-- the import of this number is the only one that the name at the token may mean
pub record IsImportMeant (h : SourceFiles) (r : Reached) (home : PackageKey) (file token number : ℕ) : Type 0 where
  pub import_ : Written
  pub there : slice_get r.survey.imports.items number ≡ Some import_
  pub file_is : import_.file ≡ file
  pub of_package : IsOfPackage h home file token import_.path
  pub only : (path : List ℕ) → IsOfPackage h home file token path → path ≡ import_.path

-- the import that the name at the token means, or that it means none
pub data IsPackageMeant (h : SourceFiles) (r : Reached) (home : PackageKey) (file token : ℕ) : Option ℕ → Type 0 where
  some : {number : ℕ} → IsImportMeant h r home file token number → IsPackageMeant h r home file token (Some number)
  nothing : ((path : List ℕ) → IsOfPackage h home file token path → ⊥) → IsPackageMeant h r home file token None
