-- Files of packages that are reached, by a survey.
use Rattle.std.specs.Prelude.{◌≡◌, ℕ, Some, slice_get}
use Rattle.argot_names_rules.specs.Lists.{In}
use Rattle.argot_names_imports.specs.declared.survey.Survey.{Survey}

-- the file's package has this first file, and is reached
pub record IsLedBy (s : Survey) (file first : ℕ) : Type 0 where
  pub leads : slice_get s.leaders.items file ≡ Some (Some first)
  pub reached : In first s.reached.keys
