-- The first name that stands for nothing, among those of the first files.
use Rattle.std.specs.Prelude.{ℕ, ◌<◌, List, Option, IfSome, IfNone}
use Rattle.argot_names_rules.specs.Files.{SourceFiles, Place, IsFirst}
use Rattle.argot_names_rules.specs.Faults.{IsUnresolved}
use Rattle.argot_files.specs.declared.place.Place.{Place as Spot}
use Rattle.argot_files.specs.Places.{place_of}

-- the first place of all, where one stands in a file before the number
pub record IsFirstBelow (h : SourceFiles) (main : List ℕ) (count : ℕ) (result : Option Spot) : Type 0 where
  pub some : IfSome result (λ p. IsFirst (IsUnresolved h main) (place_of p))
  pub none : IfNone result ((place : Place) → place.file < count → IsUnresolved h main place → ⊥)
