-- What an import path finds, by the first file of the package.
use Rattle.std.specs.Prelude.{◌≡◌, ℕ, List, length, Option, Some, None}
use Rattle.argot_stubs.specs.Stubs.{HasStub}
use Rattle.argot_names_rules.specs.declared.package_key.PackageKey.{PackageKey}
use Rattle.argot_names_rules.specs.declared.package_key.PackageKey.TheVariants as homes
use Rattle.argot_names_rules.specs.Files.{SourceFiles}
use Rattle.argot_names_rules.specs.Packages.{IsFileOf, IsFirstFile, IsLeftOut, Finds}
use Rattle.argot_names_imports.specs.declared.firsts.Sort.TheVariants.{Folders, Libraries}
use Rattle.argot_names_imports.specs.Firsts.{Numbers, AreFirsts}
use Rattle.argot_names_imports.specs.declared.find.Found.{Found}
use Rattle.argot_names_imports.specs.declared.find.Found.TheVariants.{Folder, Library, LeftOut, Nothing}

-- the table for folders and that for library texts are those of the files handed over, and so is the module's path
pub record HasTables (h : SourceFiles) (module_ : List ℕ) (folders libraries : Numbers) : Type 0 where
  pub module_is : h.sources.module ≡ module_
  pub folders_are : AreFirsts Folders h.sources.paths (length h.sources.paths) folders
  pub libraries_are : AreFirsts Libraries h.sources.paths (length h.sources.paths) libraries

-- what a path finds that names no folder
pub data IsText (path : List ℕ) (first : Option ℕ) : Found → Type 0 where
  known : {text : List ℕ} → HasStub path text → IsText path first (Library first)
  unknown : ((text : List ℕ) → HasStub path text → ⊥) → IsText path first Nothing

pub data IsFound (h : SourceFiles) (path : List ℕ) : Found → Type 0 where
  folder : {folder : List ℕ} {file : ℕ} → Finds h path (homes.Folder folder) → IsFirstFile h (homes.Folder folder) file → IsFound h path (Folder file)
  library : {file : ℕ} → Finds h path (homes.Library path) → IsFirstFile h (homes.Library path) file → IsFound h path (Library (Some file))
  -- the library's text isn't handed over
  unhanded : Finds h path (homes.Library path) → ((file : ℕ) → IsFileOf h (homes.Library path) file → ⊥) → IsFound h path (Library None)
  left_out : IsLeftOut path → IsFound h path LeftOut
  nothing : (IsLeftOut path → ⊥) → ((target : PackageKey) → Finds h path target → ⊥) → IsFound h path Nothing
