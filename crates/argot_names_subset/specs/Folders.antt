-- The folders of packages, by the paths of their first files.
use Rattle.std.specs.Prelude.{◌≡◌, ℕ, true, List, Option, Some, slice_get}
use Rattle.std.specs.Option.{option_and_then}
use Rattle.argot_text.specs.declared.sources.Sources.{Sources}
use Rattle.argot_typed.specs.declared.program.Package.{Package}
use Rattle.argot_names_rules.specs.Packages.{folder_of}
use Rattle.argot_names_rules.specs.Agreeing.{is_go_file}

-- the path of a package's first file
abbrev pub first_path : Sources → Package → Option (List ℕ)
first_path sources p = option_and_then (λ file. slice_get sources.paths file) (slice_get p.files 0)

-- a Go file in this folder
pub record IsGoIn (path folder : List ℕ) : Type 0 where
  pub go : is_go_file path ≡ true
  pub is : folder_of path ≡ folder

-- the first file of the package is one
pub record IsFolderAt (sources : Sources) (p : Package) (folder : List ℕ) : Type 0 where
  pub path : List ℕ
  pub first : first_path sources p ≡ Some path
  pub is : IsGoIn path folder

-- that of some package
pub record IsFolderOf (sources : Sources) (packages : List Package) (folder : List ℕ) : Type 0 where
  pub k : ℕ
  pub p : Package
  pub there : slice_get packages k ≡ Some p
  pub is : IsFolderAt sources p folder
