-- Package clauses that differ.
use Rattle.std.specs.Prelude.{◌≡◌, ℕ, nat_eq, Bool, true, false, not, List, Option, Some}
use Rattle.std.specs.Cmp.Lexicographic.{pointwise}
use Rattle.argot_names_rules.specs.Files.{SourceFiles, Place}
use Rattle.argot_names_imports.specs.declared.survey.Survey.{Survey}
use Rattle.argot_names_packages.specs.Spots.{spot_in, IsAt}
use Rattle.argot_names_packages.specs.Standing.{IsLedBy}
use Rattle.argot_names_packages.specs.Clauses.{name_in}

-- two names are there, and they differ
abbrev pub differing : Option (List ℕ) → Option (List ℕ) → Bool
differing (Some name) (Some other) = not (pointwise nat_eq name other)
differing _ _ = false

-- the file's package is reached, has another name than its clause, and the file's first token begins there
pub record IsSecondAt (s : Survey) (h : SourceFiles) (file : ℕ) (place : Place) : Type 0 where
  pub first : ℕ
  pub led : IsLedBy s file first
  pub differs : differing (name_in h first) (name_in h file) ≡ true
  pub begins : IsAt (spot_in h.lexed file 0) place
