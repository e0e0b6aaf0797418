-- What the path of each import finds.
use Rattle.std.specs.Prelude.{◌≡◌, ℕ, List, Some, length, slice_get}
use Rattle.argot_names_rules.specs.Files.{SourceFiles}
use Rattle.argot_names_imports.specs.declared.written.Written.{Written}
use Rattle.argot_names_imports.specs.declared.find.Found.{Found}
use Rattle.argot_names_imports.specs.Found.{IsFound}

-- the first imports, as many as there are answers, find these
abbrev pub FindThese : SourceFiles → List Written → List Found → Type 0
FindThese h ws fs = (k : ℕ) (w : Written) (f : Found) → slice_get ws k ≡ Some w → slice_get fs k ≡ Some f → IsFound h w.path f

pub record AreFounds (h : SourceFiles) (ws : List Written) (fs : List Found) : Type 0 where
  pub as_many : length fs ≡ length ws
  pub each : FindThese h ws fs
