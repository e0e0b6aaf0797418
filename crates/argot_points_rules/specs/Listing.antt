-- The answers of the calls that list nodes and locations.
use Rattle.std.specs.Prelude.{◌≡◌, ◌<◌, ◌≤◌, List, length}
use Rattle.argot_plain.specs.Code.{Code}
use Rattle.argot_facts.specs.Numbers.{nodes_of, locations_of}
use Rattle.argot_facts.specs.declared.nodes.Node.{Node}
use Rattle.argot_facts.specs.declared.pointing.Loc.{Loc}
use Rattle.argot_points_rules.specs.declared.rules.PointsFault.{PointsFault}
use Rattle.argot_points_rules.specs.declared.rules.PointsFault.TheVariants.{Nodes, Locations, Table, Memory}

-- the nodes, no more than the limit; too many exactly where there are more
abbrev pub ListsNodes : Code → List Node → Type 0
ListsNodes p ns = (ns ≡ nodes_of p) × (length ns ≤ 262144)

abbrev pub LacksNodes : Code → PointsFault → Type 0
LacksNodes p Nodes = 262144 < length (nodes_of p)
LacksNodes p Locations = ⊥
LacksNodes p Table = ⊥
LacksNodes p Memory = Unit {0}

abbrev pub ListsLocations : Code → List Loc → Type 0
ListsLocations p ls = (ls ≡ locations_of p) × (length ls ≤ 65536)

abbrev pub LacksLocations : Code → PointsFault → Type 0
LacksLocations p Nodes = ⊥
LacksLocations p Locations = 65536 < length (locations_of p)
LacksLocations p Table = ⊥
LacksLocations p Memory = Unit {0}
