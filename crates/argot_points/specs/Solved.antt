-- When tables are sound, and when they are closed under rules.
use Rattle.std.specs.Prelude.{◌≡◌, ℕ, ◌+◌, ◌<◌, ◌≤◌, Bool, true, Some, length, slice_get}
use Rattle.argot_links.specs.Table.{Table, has, room}
use Rattle.argot_plain.specs.Lists.{IsDistinct}
use Rattle.argot_plain.specs.WellFormed.{WellFormed}
use Rattle.argot_facts.specs.Graphs.{IsBefore}
use Rattle.argot_facts.specs.declared.nodes.Node.{Node}
use Rattle.argot_facts.specs.declared.pointing.Loc.{Loc}
use Rattle.argot_points_rules.specs.declared.rules.Owned.{Owned}
use Rattle.argot_points_rules.specs.declared.rules.Rule.{Rule}
use Rattle.argot_points_rules.specs.declared.rules.Rule.TheVariants.{Put, Copy, Shift, Keep, Load, Store, Aim, Enter, Choose, Return, Fresh}
use Rattle.argot_points.specs.declared.system.System.{System}
use Rattle.argot_points.specs.declared.system.Tables.{Tables}
use Rattle.argot_points.specs.Meaning.{IsRow, NodeTo, PlaceTo, LiveAt, IsMoved, IsKept, IsRoot, Aimed, IsParam, IsChosen, IsHanded, IsOutside}

-- the numbers are those of an ordered list of nodes, and of a list of distinct locations, site by site; there are few of both
pub record Fits (s : System) : Type 0 where
  pub well : WellFormed s.program.now
  pub nodes : (m n : ℕ) (a b : Node) → m < n → slice_get s.nodes.items m ≡ Some a → slice_get s.nodes.items n ≡ Some b → IsBefore a b
  pub sites : (m n : ℕ) (a b : Loc) → m ≤ n → slice_get s.locations.items m ≡ Some a → slice_get s.locations.items n ≡ Some b → a.site ≤ b.site
  pub distinct : IsDistinct s.locations.items
  pub few_nodes : length s.nodes.items ≤ 262144
  pub few_locations : length s.locations.items ≤ 65536

-- each row has a key, and behind the rows each function
abbrev pub row_keys : System → ℕ
row_keys s = length s.nodes.items + length s.locations.items

abbrev pub function_key : System → ℕ → ℕ
function_key s g = row_keys s + g

-- the tables have a row for each node and location, and a column for each location; and one row of functions
pub record HasSize (s : System) (t : Tables) : Type 0 where
  pub rows : length t.refers.rows ≡ length s.nodes.items + length s.locations.items
  pub cols : t.refers.cols ≡ length s.locations.items
  pub live_rows : length t.live.rows ≡ 1
  pub live_cols : t.live.cols ≡ length s.program.now.functions
  pub grown : t.grown.size ≡ function_key s (length s.program.now.functions)

-- the row of a location stands behind those of the nodes
abbrev pub place_row : System → ℕ → ℕ
place_row s z = length s.nodes.items + z

-- all that the tables have is so
pub record IsSound (s : System) (t : Tables) : Type 0 where
  pub size : HasSize s t
  pub within : (r y : ℕ) → has t.refers r y ≡ true → y < length s.locations.items
  pub nodes : (n y : ℕ) → n < length s.nodes.items → has t.refers n y ≡ true → NodeTo s n y
  pub places : (z y : ℕ) → z < length s.locations.items → has t.refers (place_row s z) y ≡ true → PlaceTo s z y
  pub functions : (g : ℕ) → has t.live 0 g ≡ true → g < length s.program.now.functions
  pub live : (g : ℕ) → has t.live 0 g ≡ true → LiveAt s g
  pub entry : has t.live 0 0 ≡ true

-- row b has all that row a has
abbrev pub IsPart : Table → ℕ → ℕ → Type 0
IsPart t a b = (y : ℕ) → has t a y ≡ true → has t b y ≡ true

-- what the tables refer to
abbrev pub Refers : Tables → ℕ → ℕ → Type 0
Refers t n y = has t.refers n y ≡ true

-- the tables are closed under a rule of a call, at a target
abbrev pub HandClosed : System → Tables → Rule → ℕ → Bool → Type 0
HandClosed s t (Aim i by) g takes = has t.live 0 g ≡ true
HandClosed s t (Enter i by k path source) g takes = (n m : ℕ) → IsParam s i g takes k path m → IsRow s n source → IsPart t.refers n m
HandClosed s t (Return i by k path to) g takes = (n m : ℕ) → IsHanded s g k path m → IsRow s n to → IsPart t.refers m n
HandClosed s t (Fresh i by to site) g takes = (n y : ℕ) → IsOutside s g → IsRow s n to → IsRoot s site y → has t.refers n y ≡ true
HandClosed s t _ g takes = ⊥

abbrev pub ClosedUnder : System → Tables → Rule → Type 0
ClosedUnder s t (Put to site) = (n y : ℕ) → IsRow s n to → IsRoot s site y → has t.refers n y ≡ true
ClosedUnder s t (Copy to source) = (n m : ℕ) → IsRow s n to → IsRow s m source → IsPart t.refers m n
ClosedUnder s t (Shift to source path) = (n m : ℕ) → IsRow s n to → IsRow s m source → (y : ℕ) → has t.refers m y ≡ true → (z : ℕ) → IsMoved s y path z → has t.refers n z ≡ true
ClosedUnder s t (Keep to source target) = (n m : ℕ) → IsRow s n to → IsRow s m source → (y : ℕ) → has t.refers m y ≡ true → IsKept s y target → has t.refers n y ≡ true
ClosedUnder s t (Load to at path) = (n m : ℕ) → IsRow s n to → IsRow s m at → (y : ℕ) → has t.refers m y ≡ true → (z : ℕ) → IsMoved s y path z → IsPart t.refers (place_row s z) n
ClosedUnder s t (Store at path source) = (n m : ℕ) → IsRow s n source → IsRow s m at → (y : ℕ) → has t.refers m y ≡ true → (z : ℕ) → IsMoved s y path z → IsPart t.refers n (place_row s z)
ClosedUnder s t (Aim i by) = (g : ℕ) (takes : Bool) → Aimed s (Refers t) i by g takes → HandClosed s t (Aim i by) g takes
ClosedUnder s t (Enter i by k path source) = (g : ℕ) (takes : Bool) → Aimed s (Refers t) i by g takes → HandClosed s t (Enter i by k path source) g takes
ClosedUnder s t (Choose i by k) = (n y m : ℕ) → IsRow s n by → has t.refers n y ≡ true → IsChosen s i k y m → has t.refers m y ≡ true
ClosedUnder s t (Return i by k path to) = (g : ℕ) (takes : Bool) → Aimed s (Refers t) i by g takes → HandClosed s t (Return i by k path to) g takes
ClosedUnder s t (Fresh i by to site) = (g : ℕ) (takes : Bool) → Aimed s (Refers t) i by g takes → HandClosed s t (Fresh i by to site) g takes

-- a rule counts where its function is live
abbrev pub IsDone : System → Tables → Owned → Type 0
IsDone s t o = has t.live 0 o.function ≡ true → ClosedUnder s t o.rule

abbrev pub AllDone : System → Tables → Type 0
AllDone s t = (k : ℕ) (o : Owned) → slice_get s.rules.items k ≡ Some o → IsDone s t o

-- how much can still be added
abbrev pub room_of : Tables → ℕ
room_of t = room t.refers + room t.live
