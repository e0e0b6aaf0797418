-- The name that an import of the survey declares.
use Rattle.std.specs.Prelude.{◌≡◌, ◌≢◌, ℕ, List, [], Some, codes, slice_get}
use Rattle.argot_tree.specs.declared.token.Token.{Token}
use Rattle.argot_names_rules.specs.Files.{SourceFiles, SourceFile}
use Rattle.argot_names_imports.specs.declared.written.Written.{Written}
use Rattle.argot_names_imports.specs.declared.reached.Reached.{Reached}
use Rattle.argot_names_imports.specs.Numbers.{IsOfNumber}
use Rattle.argot_names_tops.specs.declared.named.Named.{Named}
use Rattle.argot_names_tops.specs.Importing.{IsImportName}
use Rattle.argot_names_tops.specs.TopNames.{start_of}

-- import k is this one, and its file is of a package
pub record IsImportAt (h : SourceFiles) (r : Reached) (k : ℕ) (w : Written) : Type 0 where
  pub package_ : ℕ
  pub there : slice_get r.survey.imports.items k ≡ Some w
  pub of_package : IsOfNumber h r w.file package_

-- a file by its bytes and tokens
abbrev pub written_in : List ℕ → List Token → SourceFile
written_in bytes tokens = record { bytes = bytes; tokens = tokens; nodes = [] }

-- the item is this name of an import, which isn't `_`
pub record IsImportItem (tokens : List Token) (file at k : ℕ) (name : List ℕ) (n : Named) : Type 0 where
  pub scope_is : n.scope ≡ file
  pub file_is : n.place.file ≡ file
  pub of_is : n.of ≡ k
  pub name_is : n.name.now ≡ name
  pub named : name ≢ codes "_"
  pub begins : start_of (slice_get tokens at) ≡ Some n.place.offset

-- the name that import k declares, with its place
pub record GivesImport (h : SourceFiles) (r : Reached) (k : ℕ) (w : Written) (n : Named) : Type 0 where
  pub of_is : n.of ≡ k
  pub name : IsImportName h r n
