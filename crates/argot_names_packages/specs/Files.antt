-- The files of each package, from one file on.
use Rattle.std.specs.Prelude.{◌≡◌, ◌<◌, ◌≤◌, ℕ, List, [], Option, Some, length, slice_get, slice_index_or}
use Rattle.argot_names_rules.specs.Lists.{IsListOf}

-- the file's package has this first file, and it isn't one of those before
pub record IsFileFrom (leaders : List (Option ℕ)) (from first file : ℕ) : Type 0 where
  pub leads : slice_get leaders file ≡ Some (Some first)
  pub from_on : from ≤ file

-- for each first file these files, ascending
abbrev pub AreFilesFrom : List (Option ℕ) → ℕ → List (List ℕ) → Type 0
AreFilesFrom leaders from lists = (first : ℕ) → first < length lists → IsListOf (λ (a b : ℕ). a < b) (IsFileFrom leaders from first) (slice_index_or lists first [])
