-- What is found of the packages of a folder: its imports, and the packages that they lead to, each by its first file.
use Rattle.std.specs.Prelude.{◌≡◌, ℕ, ◌↔◌, List, Option, Some, None, slice_get}
use Rattle.argot_stubs.specs.Stubs.{HasStub}
use Rattle.argot_names_rules.specs.declared.package_key.PackageKey.{PackageKey}
use Rattle.argot_names_rules.specs.declared.package_key.PackageKey.TheVariants.{Folder, Library}
use Rattle.argot_names_rules.specs.Lists.{In, IsListOf}
use Rattle.argot_names_rules.specs.Files.{SourceFiles}
use Rattle.argot_names_rules.specs.Packages.{HasPath, IsFileOf, IsFirstFile}
use Rattle.argot_names_imports.specs.declared.firsts.Sort.TheVariants.{Folders, Libraries}
use Rattle.argot_names_imports.specs.Keys.{key_of}
use Rattle.argot_names_rules.specs.Imports.{IsReached}
use Rattle.argot_names_imports.specs.AllWritten.{InOrder, IsAnImport}
use Rattle.argot_names_imports.specs.Founds.{AreFounds}
use Rattle.argot_names_imports.specs.declared.survey.Survey.{Survey}

-- the package of a file, by its path
abbrev pub owner_by : Option (List ℕ) → Option (List ℕ) → Option PackageKey
owner_by (Some q) library_ = Some (Folder q)
owner_by None (Some p) = Some (Library p)
owner_by None None = None

abbrev pub owner_of : List ℕ → Option PackageKey
owner_of path = owner_by (key_of Folders path) (key_of Libraries path)

-- the file has such a path
pub record IsOwned (h : SourceFiles) (home : PackageKey) (file : ℕ) : Type 0 where
  pub path : List ℕ
  pub there : HasPath h file path
  pub owner : owner_of path ≡ Some home

-- a folder, or a package that the library has
pub data IsProper : PackageKey → Type 0 where
  folder : {folder : List ℕ} → IsProper (Folder folder)
  library : {path text : List ℕ} → HasStub path text → IsProper (Library path)

-- the file belongs to a package, of which this is the first file
pub record IsLed (h : SourceFiles) (file first : ℕ) : Type 0 where
  pub home : PackageKey
  pub owned : IsOwned h home file
  pub leads : IsFirstFile h home first

-- a package that is reached has this first file
pub record IsReachedFirst (h : SourceFiles) (main : List ℕ) (first : ℕ) : Type 0 where
  pub home : PackageKey
  pub reached : IsReached h main home
  pub leads : IsFirstFile h home first

pub record IsSurvey (h : SourceFiles) (main : List ℕ) (s : Survey) : Type 0 where
  pub imports : IsListOf InOrder (IsAnImport h) s.imports.items
  pub founds : AreFounds h s.imports.items s.founds.items
  pub leaders : (file first : ℕ) → slice_get s.leaders.items file ≡ Some (Some first) ↔ IsLed h file first
  pub reached : (first : ℕ) → In first s.reached.keys ↔ IsReachedFirst h main first
  -- a package with a file has a first one
  pub firsts : (home : PackageKey) (file : ℕ) → IsFileOf h home file → (first : ℕ) × IsFirstFile h home first
  -- the main package is the first one
  pub main_first : (first : ℕ) → IsFirstFile h (Folder main) first → slice_get s.reached.keys 0 ≡ Some first
