-- The facts that handed tables have: of which definitions reach which places, and of points-to. Tables that are exactly the
-- program's have its own facts.
use Rattle.std.specs.Prelude.{◌≡◌, ℕ, Bool, true, List, Some, slice_get}
use Rattle.argot_links.specs.Table.{has}
use Rattle.argot_plain.specs.Code.{Code, IsAt, IsFunction, Defines, Hands, takes_reference}
use Rattle.argot_plain.specs.Lists.{In}
use Rattle.argot_plain.specs.Nodes.{Mark}
use Rattle.argot_plain.specs.declared.functions.Function.{Function}
use Rattle.argot_plain.specs.declared.instructions.Callee.{Callee}
use Rattle.argot_plain.specs.declared.instructions.Kind.{Kind}
use Rattle.argot_facts.specs.Exact.{place_of}
use Rattle.argot_facts.specs.Graphs.{IsMarked}
use Rattle.argot_facts.specs.Pointing.{Pointing, place_row}
use Rattle.argot_facts.specs.Refers.{Location, Fact, IsLive, Targets, NodeRefers, PlaceRefers}
use Rattle.argot_facts.specs.declared.nodes.Node.{Node}
use Rattle.argot_facts.specs.declared.pointing.Loc.{Loc}

-- a definition of r at d, as its result j, reaches i by these triples
abbrev pub DefsOf : Code → List (ℕ × ℕ × ℕ) → ℕ → ℕ → ℕ → ℕ → Type 0
DefsOf p ds d j r i = In (d, i, r) ds × Defines p d j r

-- the node with this mark has the number n
pub record IsNumberOf (p : Code) (ns : List Node) (n : ℕ) (m : Mark) : Type 0 where
  pub node : Node
  pub is : slice_get ns n ≡ Some node
  pub marked : IsMarked p node m

-- the location has the number y
pub record IsLocated (ls : List Loc) (y : ℕ) (to : Location) : Type 0 where
  pub location : Loc
  pub is : slice_get ls y ≡ Some location
  pub same : place_of location ≡ to

-- at the place i stands a Call, Go or Defer, and the target takes its reference there or doesn't
pub record IsTakenAt (p : Code) (i target : ℕ) (takes : Bool) : Type 0 where
  pub kind : Kind
  pub callee : Callee
  pub args : List ℕ
  pub behind : ℕ
  pub fn : Function
  pub at : IsAt p i kind
  pub hands : Hands kind callee args behind
  pub is : IsFunction p target fn
  pub takes_it : takes ≡ takes_reference callee fn

-- what the tables of points-to have
abbrev pub FactsOf : Code → Pointing → Fact → Type 0
FactsOf p x (IsLive h) = In h x.live
FactsOf p x (Targets i target takes) = In (i, target) x.targets × IsTakenAt p i target takes
FactsOf p x (NodeRefers m to) = (n : ℕ) × (y : ℕ) × IsNumberOf p x.nodes n m × IsLocated x.locations y to × (has x.rows n y ≡ true)
FactsOf p x (PlaceRefers at to) = (z : ℕ) × (y : ℕ) × IsLocated x.locations z at × IsLocated x.locations y to × (has x.rows (place_row x z) y ≡ true)
