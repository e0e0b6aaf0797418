-- Packages by their numbers.
use Rattle.std.specs.Prelude.{◌≡◌, ℕ, List, Some, slice_get}
use Rattle.argot_names_rules.specs.declared.package_key.PackageKey.{PackageKey}
use Rattle.argot_names_rules.specs.Files.{SourceFiles}
use Rattle.argot_names_rules.specs.Packages.{IsFileOf, Finds}
use Rattle.argot_names_imports.specs.declared.written.Written.{Written}
use Rattle.argot_names_imports.specs.declared.find.Found.{Found}
use Rattle.argot_names_imports.specs.Graph.{target_of}
use Rattle.argot_names_imports.specs.declared.reached.Reached.{Reached}
use Rattle.argot_names_imports.specs.Reached.{homes_of}

-- what is found there is a package with this first file
pub record IsTargetAt (founds : List Found) (k first : ℕ) : Type 0 where
  pub found : Found
  pub is_found : slice_get founds k ≡ Some found
  pub target : target_of found ≡ Some first

-- the file belongs to the package of this number
pub record IsOfNumber (h : SourceFiles) (r : Reached) (file number : ℕ) : Type 0 where
  pub home : PackageKey
  pub in_home : slice_get (homes_of h r) number ≡ Some home
  pub of : IsFileOf h home file

-- the import finds the package of this number
pub record IsFoundBy (h : SourceFiles) (r : Reached) (k number : ℕ) : Type 0 where
  pub import_ : Written
  pub home : PackageKey
  pub is_import : slice_get r.survey.imports.items k ≡ Some import_
  pub in_home : slice_get (homes_of h r) number ≡ Some home
  pub finds : Finds h import_.path home
