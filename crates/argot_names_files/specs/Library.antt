-- The texts of the library behind a folder's files.
use Rattle.std.specs.Prelude.{◌≡◌, ℕ, ◌<◌, ◌-◌, ◌^◌, List, [], ◌∷◌, ◌++◌, codes, length, map}
use Rattle.argot_stubs.specs.Stubs.{HasStub}
use Rattle.argot_text.specs.declared.sources.Sources.{Sources}
use Rattle.argot_names_rules.specs.Agreeing.{Agrees, HasLibrary, library_path}
use Rattle.argot_names_imports.specs.Reads.{handed}
use Rattle.argot_names_files.specs.Reading.{HasTree}
use Rattle.argot_names_files.specs.declared.folder.Folder.{Folder}
use Rattle.argot_names_files.specs.declared.folder.Part.{Part}

-- the paths of the library, in byte order
abbrev pub library_paths : List (List ℕ)
library_paths = codes "errors" ∷ codes "fmt" ∷ codes "log" ∷ codes "os" ∷ codes "os/exec" ∷ codes "strconv" ∷ codes "strings" ∷ codes "sync" ∷ []

-- the text at a path of the library, as a file with its tokens and its tree
pub record IsText (path : List ℕ) (part : Part) : Type 0 where
  pub path_is : part.path ≡ library_path path
  pub text : HasStub path part.bytes
  pub short : length part.bytes < 2 ^ 32 - 1
  pub has : HasTree part.bytes part.lexed part.tree

-- these files and all texts of the library, each read
pub record IsFolder (s : Sources) (f : Folder) : Type 0 where
  pub paths : f.sources.paths ≡ s.paths ++ map library_path library_paths
  pub module_is : f.sources.«module» ≡ s.«module»
  pub go_line : f.sources.go_line ≡ s.go_line
  pub agrees : Agrees (handed f.sources f.lexed.items f.trees.items)
  pub library : (main : List ℕ) → HasLibrary (handed f.sources f.lexed.items f.trees.items) main
