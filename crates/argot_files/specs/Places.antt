-- Places as the code has them.
use Rattle.std.specs.Prelude.{nat_eq, nat_lt, Bool, ◌||◌, ◌&&◌}
use Rattle.argot_names_rules.specs.Files.{Place}
use Rattle.argot_files.specs.declared.place.Place.{Place as Spot}

-- the byte as a place of the definitions
abbrev pub place_of : Spot → Place
place_of p = record { file = p.file; offset = p.offset }

-- by file, and in a file by offset
abbrev pub before : Spot → Spot → Bool
before a b = nat_lt a.file b.file || (nat_eq a.file b.file && nat_lt a.offset b.offset)
