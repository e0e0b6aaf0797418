-- The first of the places that a claim holds of, or that there is none.
use Rattle.std.specs.Prelude.{◌⊎◌, Option, Some, None, if◌then◌else◌}
use Rattle.argot_names_rules.specs.Files.{Place as Byte, IsFirst}
use Rattle.argot_files.specs.declared.place.Place.{Place}
use Rattle.argot_files.specs.Places.{place_of}
use Rattle.argot_names_tops.specs.Entries.{is_before}

pub data NamesFirst (Holds : Byte → Type 0) : Option Place → Type 0 where
  there : {p : Place} → IsFirst Holds (place_of p) → NamesFirst Holds (Some p)
  nowhere : ((p : Byte) → Holds p → ⊥) → NamesFirst Holds None

-- one of two claims holds
abbrev pub Either : (Byte → Type 0) → (Byte → Type 0) → Byte → Type 0
Either P Q p = P p ⊎ Q p

-- the one of two that comes first, where there are two
abbrev pub sooner_of : Option Place → Option Place → Option Place
sooner_of None o = o
sooner_of (Some a) None = Some a
sooner_of (Some a) (Some b) = if is_before b a then Some b else Some a
