-- What the solver keeps, and why there may be none.
use Rattle.std.specs.Prelude.{◌≡◌, ℕ, ◌+◌, ◌*◌, ◌<◌, ◌≤◌, List, length}
use Rattle.argot_plain.specs.Code.{Code}
use Rattle.argot_plain.specs.WellFormed.{WellFormed}
use Rattle.argot_facts.specs.Exact.{AreDefs}
use Rattle.argot_facts.specs.Numbers.{nodes_of, locations_of}
use Rattle.argot_points_rules.specs.Column.{rules_of}
use Rattle.argot_points_rules.specs.declared.rules.PointsFault.{PointsFault}
use Rattle.argot_points_rules.specs.declared.rules.PointsFault.TheVariants.{Nodes, Locations, Table, Memory}
use Rattle.argot_points.specs.declared.system.System.{System}
use Rattle.argot_points.specs.declared.system.Tables.{Tables}
use Rattle.argot_points.specs.Settled.{HasUses}
use Rattle.argot_points.specs.Solved.{HasSize}

-- the numbers and the rules are those of the program, by exactly its definitions, and the tables have their sizes
pub record IsReady (s : System) (t : Tables) (uses : List (List ℕ)) : Type 0 where
  pub well : WellFormed s.program.now
  pub defs : List (ℕ × ℕ × ℕ)
  pub exact : AreDefs s.program.now defs
  pub nodes : s.nodes.items ≡ nodes_of s.program.now
  pub locations : s.locations.items ≡ locations_of s.program.now
  pub rules : s.rules.items ≡ rules_of s.program.now defs
  pub few_nodes : length s.nodes.items ≤ 262144
  pub few_locations : length s.locations.items ≤ 65536
  pub size : HasSize s t
  pub used : HasUses s uses

-- how many cells the table of the program has
abbrev pub cells : Code → ℕ
cells p = (length (nodes_of p) + length (locations_of p)) * length (locations_of p)

-- the program keeps the limits
pub record HasFew (p : Code) : Type 0 where
  pub nodes : length (nodes_of p) ≤ 262144
  pub locations : length (locations_of p) ≤ 65536
  pub table : cells p ≤ 4294967296

-- the limits that it doesn't keep, in their order
abbrev pub HasMany : Code → PointsFault → Type 0
HasMany p Nodes = 262144 < length (nodes_of p)
HasMany p Locations = (length (nodes_of p) ≤ 262144) × (65536 < length (locations_of p))
HasMany p Table = (length (nodes_of p) ≤ 262144) × (length (locations_of p) ≤ 65536) × (4294967296 < cells p)
HasMany p Memory = Unit {0}
