-- What references refer to, as contracts see it: nodes and locations by number, and for each a row of the locations to which it
-- refers. A list of pairs would take a gigabyte at the limits.
use Rattle.std.specs.Prelude.{◌≡◌, ◌↔◌, ℕ, ◌+◌, ◌<◌, ◌≤◌, Bool, true, List, [], ◌∷◌, ◌++◌, Option, Some, None, length, slice_get}
use Rattle.std.specs.List.{filter_map}
use Rattle.argot_links.specs.Runs.{run}
use Rattle.argot_links.specs.Table.{Table, row}
use Rattle.argot_plain.specs.Code.{Code}
use Rattle.argot_plain.specs.Lists.{In}
use Rattle.argot_facts.specs.Graphs.{IsBefore, IsOrdered}
use Rattle.argot_facts.specs.Numbers.{nodes_of, locations_of}
use Rattle.argot_facts.specs.declared.nodes.Node.{Node}
use Rattle.argot_facts.specs.declared.pointing.Loc.{Loc}
use Rattle.argot_facts.specs.declared.pointing.PointsParts.{PointsParts}
use Rattle.argot_facts.specs.declared.pointing.Spot.{Spot}
use Rattle.argot_facts.specs.declared.pointing.Spot.TheVariants as spot

-- the nodes, the locations, a row for each node and then for each location with the numbers of the locations to which it refers,
-- the live functions, and calls with their targets
pub record Pointing : Type 0 where
  pub nodes : List Node
  pub locations : List Loc
  pub rows : Table
  pub live : List ℕ
  pub targets : List (ℕ × ℕ)

abbrev pub paired : Spot → Option Loc → Option (Spot × Loc)
paired a None = None
paired a (Some l) = Some (a, l)

-- what the row r has, of the spot a
abbrev pub of_row : List Loc → Table → Spot → ℕ → List (Spot × Loc)
of_row ls t a r = filter_map (λ c. paired a (slice_get ls c)) (row t r)

-- the rows of these nodes, from row r on
abbrev pub of_nodes : List Loc → Table → ℕ → List Node → List (Spot × Loc)
of_nodes ls t r [] = []
of_nodes ls t r (a ∷ ns) = of_row ls t (spot.Node a) r ++ of_nodes ls t (r + 1) ns

-- and of these locations
abbrev pub of_places : List Loc → Table → ℕ → List Loc → List (Spot × Loc)
of_places ls t r [] = []
of_places ls t r (l ∷ ks) = of_row ls t (spot.Loc l) r ++ of_places ls t (r + 1) ks

-- the row of a location stands behind those of the nodes
abbrev pub place_row : Pointing → ℕ → ℕ
place_row x y = length x.nodes + y

-- the pairs of a spot and a location to which it refers, spot by spot, and for each by the number of the location
abbrev pub refers : Pointing → List (Spot × Loc)
refers x = of_nodes x.locations x.rows 0 x.nodes ++ of_places x.locations x.rows (length x.nodes) x.locations

-- the rows are those of the nodes and locations, of which there are few
pub record HasRows (x : Pointing) : Type 0 where
  pub rows : length x.rows.rows ≡ length x.nodes + length x.locations
  pub cols : x.rows.cols ≡ length x.locations
  pub few_nodes : length x.nodes ≤ 262144
  pub few_locations : length x.locations ≤ 65536

-- the numbers are those of the program
pub record FitsPoints (p : Code) (x : Pointing) : Type 0 where
  pub nodes : x.nodes ≡ nodes_of p
  pub locations : x.locations ≡ locations_of p
  pub rows : HasRows x
  pub live : (h : ℕ) → In h x.live → h < length p.functions
  pub places : (i target : ℕ) → In (i, target) x.targets → i < length p.instrs
  pub callees : (i target : ℕ) → In (i, target) x.targets → target < length p.functions

-- the location number y is one of the site
pub record IsPlaceOf (ls : List Loc) (s y : ℕ) : Type 0 where
  pub location : Loc
  pub is : slice_get ls y ≡ Some location
  pub site : location.site ≡ s

abbrev pub pointing_of : PointsParts → Pointing
pointing_of x = record { nodes = x.nodes.items; locations = x.locations.items; rows = x.refers; live = x.live.items; targets = x.targets.items }

-- the locations of a site by their numbers, the targets of a place, and which functions are live
pub record AreIndexed (x : Pointing) (by_site by_place : List (List ℕ)) (is_live : List Bool) : Type 0 where
  pub rows : HasRows x
  pub ordered : IsOrdered IsBefore x.nodes
  pub sites : (s y : ℕ) → In y (run by_site s) ↔ IsPlaceOf x.locations s y
  pub places : (i target : ℕ) → In target (run by_place i) ↔ In (i, target) x.targets
  pub flags : (h : ℕ) → (slice_get is_live h ≡ Some true) ↔ In h x.live
