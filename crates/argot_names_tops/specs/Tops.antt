-- What is kept of the package level of scopes.
use Rattle.std.specs.Prelude.{◌≡◌, ℕ, List, Option, Some, None, length, slice_get}
use Rattle.argot_names_rules.specs.Files.{SourceFiles, bytes_of, read_of}
use Rattle.argot_names_scopes.specs.declared.file.FileNames.{FileNames}
use Rattle.argot_names_scopes.specs.Names.{AreNames}
use Rattle.argot_names_imports.specs.declared.reached.Reached.{Reached}
use Rattle.argot_names_imports.specs.Reached.{homes_of, IsReach}
use Rattle.argot_names_imports.specs.Numbers.{IsOfNumber}
use Rattle.argot_names_tops.specs.Entries.{AreEntries}
use Rattle.argot_names_tops.specs.Declaring.{AreDeclared}
use Rattle.argot_names_tops.specs.Importing.{AreImportNames}
use Rattle.argot_names_tops.specs.declared.tops.Tops.{Tops}

-- the names are those of the file
pub record IsNamesOf (h : SourceFiles) (file : ℕ) (n : FileNames) : Type 0 where
  pub bytes : n.bytes.now ≡ bytes_of h file
  pub tokens : n.tokens.now ≡ (read_of h file).tokens
  pub nodes : n.tree.now.nodes ≡ (read_of h file).nodes
  pub names : AreNames n

-- the names of the files of packages, by the files' numbers
pub record AreFiles (h : SourceFiles) (r : Reached) (files : List (Option FileNames)) : Type 0 where
  pub there : (file : ℕ) (n : FileNames) → slice_get files file ≡ Some (Some n) → IsNamesOf h file n × ((number : ℕ) × IsOfNumber h r file number)
  pub all : (file number : ℕ) → IsOfNumber h r file number → (n : FileNames) × (slice_get files file ≡ Some (Some n))

pub record AreTops (h : SourceFiles) (main : List ℕ) (r : Reached) (t : Tops) : Type 0 where
  pub reach : IsReach h main r
  pub files : AreFiles h r t.files.items
  pub tops : AreDeclared h (homes_of h r) t.tops.items
  pub imports : AreImportNames h r t.imports.items
  pub top_entries : AreEntries t.tops.items (length t.tops.items) t.top_entries
  pub import_entries : AreEntries t.imports.items (length t.imports.items) t.import_entries

-- the names of a file of a package, or that it is of none
pub data IsFileEntry (h : SourceFiles) (r : Reached) (file : ℕ) : Option FileNames → Type 0 where
  of_package : {n : FileNames} (number : ℕ) → IsOfNumber h r file number → IsNamesOf h file n → IsFileEntry h r file (Some n)
  of_none : ((number : ℕ) → IsOfNumber h r file number → ⊥) → IsFileEntry h r file None

-- for the files below this number
pub record AreFilesBelow (h : SourceFiles) (r : Reached) (count : ℕ) (files : List (Option FileNames)) : Type 0 where
  pub as_many : length files ≡ count
  pub each : (file : ℕ) (o : Option FileNames) → slice_get files file ≡ Some o → IsFileEntry h r file o
