-- Which import of a survey names a text of the library.
use Rattle.std.specs.Prelude.{◌≡◌, ℕ, Bool, true, false, List, Some, slice_get}
use Rattle.argot_names_rules.specs.Lists.{In}
use Rattle.argot_names_imports.specs.declared.written.Written.{Written}
use Rattle.argot_names_imports.specs.declared.find.Found.{Found}
use Rattle.argot_names_imports.specs.declared.find.Found.TheVariants.{Folder, Library, LeftOut, Nothing}
use Rattle.argot_names_imports.specs.declared.survey.Survey.{Survey}
use Rattle.argot_names.specs.Paths.{library_paths}

abbrev pub is_library : Found → Bool
is_library (Library file) = true
is_library (Folder file) = false
is_library LeftOut = false
is_library Nothing = false

-- the first file of the file's package is that of a package that is reached
pub record IsReachedLeader (s : Survey) (file : ℕ) : Type 0 where
  pub first : ℕ
  pub leads : slice_get s.leaders.items file ≡ Some (Some first)
  pub reached : In first s.reached.keys

-- the import of this number names the library's text at this path
pub record NamesAt (s : Survey) (path : List ℕ) (k : ℕ) : Type 0 where
  pub import_ : Written
  pub found : Found
  pub is_import : slice_get s.imports.items k ≡ Some import_
  pub is_found : slice_get s.founds.items k ≡ Some found
  pub library : is_library found ≡ true
  pub path_is : import_.path ≡ path
  pub reached : IsReachedLeader s import_.file

-- a path of the library that an import names
pub record IsNamedPath (s : Survey) (path : List ℕ) : Type 0 where
  pub known : In path library_paths
  pub number : ℕ
  pub names : NamesAt s path number
