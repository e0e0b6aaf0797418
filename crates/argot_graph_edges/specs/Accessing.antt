-- Which nodes write and read which locations, as pairs of numbers.
use Rattle.std.specs.Prelude.{◌≡◌, ◌⊎◌, ◌↔◌, ℕ, ◌++◌, true, List, Some, slice_get}
use Rattle.argot_links.specs.Table.{row}
use Rattle.argot_plain.specs.Lists.{In}
use Rattle.argot_text.specs.declared.path.PathStep.{PathStep}
use Rattle.argot_facts.specs.Pointing.{Pointing}
use Rattle.argot_facts.specs.declared.nodes.Node.{Node}
use Rattle.argot_facts.specs.declared.pointing.Loc.{Loc}
use Rattle.argot_points_rules.specs.declared.rules.Owned.{Owned}
use Rattle.argot_points_rules.specs.declared.rules.Rule.{Rule}
use Rattle.argot_points_rules.specs.declared.rules.Rule.TheVariants.{Load, Store}

-- new has the pairs of old and those with the property, and no others
abbrev pub AddsPairs : (ℕ × ℕ → Type 0) → List (ℕ × ℕ) → List (ℕ × ℕ) → Type 0
AddsPairs A old new = (w : ℕ × ℕ) → (In w new → In w old ⊎ A w) × (In w old ⊎ A w → In w new)

-- exactly the pairs with the property
abbrev pub ArePairs : (ℕ × ℕ → Type 0) → List (ℕ × ℕ) → Type 0
ArePairs A pairs = (w : ℕ × ℕ) → In w pairs ↔ A w

-- the location number z has the path
abbrev pub HasPath : List Loc → ℕ → List PathStep → Type 0
HasPath ls z path = (l : Loc) × (slice_get ls z ≡ Some l) × (l.path ≡ path)

-- the location number y, moved along the path, has the number z
pub record IsMovedTo (ls : List Loc) (y : ℕ) (path : List PathStep) (z : ℕ) : Type 0 where
  pub from : Loc
  pub is : slice_get ls y ≡ Some from
  pub to : Loc
  pub at : slice_get ls z ≡ Some to
  pub site : to.site ≡ from.site
  pub along : to.path ≡ from.path ++ path

-- the node of this number, with y moved along the path
abbrev pub Accesses : List Loc → ℕ → List PathStep → ℕ → ℕ × ℕ → Type 0
Accesses ls y path n w = IsMovedTo ls y path w.0 × (w.1 ≡ n)

-- with all to which the node number m refers, moved along the path
abbrev pub RowAccesses : Pointing → ℕ → List PathStep → ℕ → ℕ × ℕ → Type 0
RowAccesses x m path n w = (y : ℕ) × In y (row x.rows m) × Accesses x.locations y path n w

-- by nodes
pub record NodeAccesses (x : Pointing) (at : Node) (path : List PathStep) (node : Node) (w : ℕ × ℕ) : Type 0 where
  pub by : ℕ
  pub number : ℕ
  pub is_by : slice_get x.nodes by ≡ Some at
  pub is : slice_get x.nodes number ≡ Some node
  pub accesses : RowAccesses x by path number w

abbrev pub Stores : Pointing → Rule → ℕ × ℕ → Type 0
Stores x (Store at path source) w = NodeAccesses x at path source w
Stores x _ w = ⊥

abbrev pub Loads : Pointing → Rule → ℕ × ℕ → Type 0
Loads x (Load to at path) w = NodeAccesses x at path to w
Loads x _ w = ⊥

-- a rule of a live function stores or loads so
abbrev pub StoredBy : Pointing → Owned → ℕ × ℕ → Type 0
StoredBy x o w = In o.function x.live × Stores x o.rule w

abbrev pub LoadedBy : Pointing → Owned → ℕ × ℕ → Type 0
LoadedBy x o w = In o.function x.live × Loads x o.rule w

-- and some of these rules do
abbrev pub Written : Pointing → List Owned → ℕ × ℕ → Type 0
Written x rules w = (o : Owned) × In o rules × StoredBy x o w

abbrev pub Readable : Pointing → List Owned → ℕ × ℕ → Type 0
Readable x rules w = (o : Owned) × In o rules × LoadedBy x o w
