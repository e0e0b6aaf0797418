-- Features and their places as they are gathered: a set in which each stands once, in order.
use Rattle.std.specs.Prelude.{◌≡◌, ◌<◌, ◌⊎◌, List}
use Rattle.argot_names_rules.specs.Lists.{In}
use Rattle.argot_names_rules.specs.Files.{Place}
use Rattle.argot_names_rules.specs.declared.flag.Feature.{Feature}
use Rattle.argot_names_rules.specs.Subset.{rank}
use Rattle.argot_names_subset_file.specs.declared.spots.Spot.{Spot}

-- a feature at a place, as a spot
abbrev pub spot_of : Feature → Place → Spot
spot_of feature place = record { file = place.file; offset = place.offset; rank = rank feature }

-- the spot is a feature at a place for which the claim holds
pub record IsSpotted (Holds : Feature → Place → Type 0) (spot : Spot) : Type 0 where
  pub feature : Feature
  pub place : Place
  pub holds : Holds feature place
  pub is : spot ≡ spot_of feature place

-- the spots for which the claim holds have been added, and no others
pub record Adds (Holds : Feature → Place → Type 0) (old new : List Spot) : Type 0 where
  pub kept : (spot : Spot) → In spot old → In spot new
  pub added : (feature : Feature) (place : Place) → Holds feature place → In (spot_of feature place) new
  pub only : (spot : Spot) → In spot new → In spot old ⊎ IsSpotted Holds spot

-- by file, by offset, and then in the order of features
pub data IsSpotBefore (a b : Spot) : Type 0 where
  by_file : a.file < b.file → IsSpotBefore a b
  by_offset : a.file ≡ b.file → a.offset < b.offset → IsSpotBefore a b
  by_rank : a.file ≡ b.file → a.offset ≡ b.offset → a.rank < b.rank → IsSpotBefore a b
