-- What a package is made of, by its first file.
use Rattle.std.specs.Prelude.{◌≡◌, ◌<◌, ◌^◌, ℕ, nat_eq, List, [], Some, length, slice_get, slice_index_or}
use Rattle.std.specs.List.{IsDistinct}
use Rattle.argot_text.specs.declared.sources.Sources.{Sources}
use Rattle.argot_typed.specs.declared.program.Package.{Package}
use Rattle.argot_names_rules.specs.Files.{SourceFiles}
use Rattle.argot_names_imports.specs.declared.survey.Survey.{Survey}
use Rattle.argot_names_packages.specs.Clauses.{name_in}
use Rattle.argot_names_packages.specs.Paths.{IsPathBy}
use Rattle.argot_names_packages.specs.Files.{AreFilesFrom}

-- the import path of the package of a file
abbrev pub IsPathAt : Sources → ℕ → List ℕ → Type 0
IsPathAt sources file path = (of : List ℕ) → slice_get sources.paths file ≡ Some of → IsPathBy sources.module of path

-- its path, its name and its files
pub record IsMade (h : SourceFiles) (lists : List (List ℕ)) (first : ℕ) (is : Package) : Type 0 where
  pub path : IsPathAt h.sources first is.path
  pub name : name_in h first ≡ Some is.name
  pub files : is.files ≡ slice_index_or lists first []

-- the packages with these first files, as far as they are made
pub record AreMadeUpTo (h : SourceFiles) (firsts : List ℕ) (lists : List (List ℕ)) (packages : List Package) : Type 0 where
  pub each : (k first : ℕ) (is : Package) → slice_get firsts k ≡ Some first → slice_get packages k ≡ Some is → IsMade h lists first is

-- all of them
pub record AreMade (h : SourceFiles) (s : Survey) (packages : List Package) : Type 0 where
  pub lists : List (List ℕ)
  pub as_long : length lists ≡ length s.leaders.items
  pub files : AreFilesFrom s.leaders.items 0 lists
  pub few : length s.reached.keys < 2 ^ 32
  pub as_many : length packages ≡ length s.reached.keys
  pub made : AreMadeUpTo h s.reached.keys lists packages
  pub once : IsDistinct nat_eq s.reached.keys
