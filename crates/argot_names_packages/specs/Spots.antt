-- Bytes of files as the code has them, and the least one of those that a claim holds of.
use Rattle.std.specs.Prelude.{◌≡◌, ◌<◌, ℕ, Bool, true, List, Option, Some, None, slice_get, if◌then◌else◌}
use Rattle.argot_tree.specs.declared.lexed.Lexed.{Lexed}
use Rattle.argot_tree.specs.declared.token.Token.{Token}
use Rattle.argot_names_rules.specs.Files.{Place, IsFirst}
use Rattle.argot_names_imports.specs.Reads.{tokens_at}
use Rattle.argot_files.specs.Places.{place_of, before}
use Rattle.argot_files.specs.declared.place.Place.{Place as Spot}

-- where a token of a file begins
abbrev pub spot_of : ℕ → Option Token → Option Spot
spot_of file None = None
spot_of file (Some token) = Some (record { file = file; offset = token.start })

abbrev pub spot_in : List Lexed → ℕ → ℕ → Option Spot
spot_in lexed file token = spot_of file (slice_get (tokens_at lexed file) token)

-- the byte that is there has this place
pub record IsAt (o : Option Spot) (place : Place) : Type 0 where
  pub spot : Spot
  pub is : o ≡ Some spot
  pub place_is : place_of spot ≡ place

abbrev pub comes_first : Spot → Option Spot → Bool
comes_first spot None = true
comes_first spot (Some other) = before spot other

-- the least one so far, or a new one that stands before it
abbrev pub sooner_of : Option Spot → Option Spot → Option Spot
sooner_of least None = least
sooner_of least (Some spot) = if comes_first spot least then Some spot else least

-- the first of the places that the claim holds of; none where it holds of none
pub data IsLeast (Holds : Place → Type 0) : Option Spot → Type 0 where
  found : {spot : Spot} → IsFirst Holds (place_of spot) → IsLeast Holds (Some spot)
  none : ((place : Place) → Holds place → ⊥) → IsLeast Holds None

-- a place of one of the first candidates
pub record IsBelow (At : ℕ → Place → Type 0) (count : ℕ) (place : Place) : Type 0 where
  pub number : ℕ
  pub below : number < count
  pub at : At number place
