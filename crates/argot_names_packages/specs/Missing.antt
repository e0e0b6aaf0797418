-- Imports that find nothing.
use Rattle.std.specs.Prelude.{◌≡◌, ℕ, Bool, true, false, List, Some, slice_get}
use Rattle.argot_tree.specs.declared.lexed.Lexed.{Lexed}
use Rattle.argot_names_rules.specs.Files.{Place}
use Rattle.argot_names_imports.specs.declared.written.Written.{Written}
use Rattle.argot_names_imports.specs.declared.find.Found.{Found}
use Rattle.argot_names_imports.specs.declared.find.Found.TheVariants.{Folder, Library, LeftOut, Nothing}
use Rattle.argot_names_imports.specs.declared.survey.Survey.{Survey}
use Rattle.argot_names_packages.specs.Spots.{spot_in, IsAt}
use Rattle.argot_names_packages.specs.Standing.{IsLedBy}

abbrev pub is_nothing : Found → Bool
is_nothing Nothing = true
is_nothing (Folder file) = false
is_nothing (Library file) = false
is_nothing LeftOut = false

-- the import of this number finds nothing, is one of a package that is reached, and its path begins there
pub record IsMissingAt (s : Survey) (lexed : List Lexed) (k : ℕ) (place : Place) : Type 0 where
  pub import_ : Written
  pub found : Found
  pub first : ℕ
  pub is_import : slice_get s.imports.items k ≡ Some import_
  pub is_found : slice_get s.founds.items k ≡ Some found
  pub nothing : is_nothing found ≡ true
  pub led : IsLedBy s import_.file first
  pub begins : IsAt (spot_in lexed import_.file import_.path_at) place
