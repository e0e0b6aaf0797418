-- What it means that lists hold exactly the relations: the definitions that reach places, the locations, what is pointed to, the
-- sites that escape and the places that follow; and the limit on edges.
use Rattle.std.specs.Prelude.{◌≡◌, ◌↔◌, ℕ, ◌<◌, Bool, true, List, length}
use Rattle.argot_plain.specs.Lists.{In, IsDistinct}
use Rattle.argot_plain.specs.Code.{Code, IsAt, IsFunction, IsIn, arguments, reads}
use Rattle.argot_plain.specs.Machine.{is_path_of}
use Rattle.argot_plain.specs.Nodes.{Mark}
use Rattle.argot_plain.specs.declared.functions.Function.{Function}
use Rattle.argot_plain.specs.declared.instructions.Callee.{Callee}
use Rattle.argot_plain.specs.declared.instructions.Kind.{Kind}
use Rattle.argot_plain.specs.declared.instructions.Kind.TheVariants.{Read, Write, Grow, Call, Go, Defer}
use Rattle.argot_plain.specs.declared.problems.Problem.{Problem}
use Rattle.argot_text.specs.declared.path.PathStep.{PathStep}
use Rattle.argot_facts.specs.Escapes.{EscapesBy}
use Rattle.argot_facts.specs.Findings.{AreTargets, TargetBefore}
use Rattle.argot_facts.specs.Follows.{FollowsBy}
use Rattle.argot_facts.specs.Graphs.{IsMarked, IsNumberedBy, IsOrdered, AreNodes, EdgeBefore}
use Rattle.argot_facts.specs.Marked.{IsSet}
use Rattle.argot_facts.specs.Pointing.{Pointing, FitsPoints, refers}
use Rattle.argot_facts.specs.Reaching.{DefinedAt, IsDefinition}
use Rattle.argot_facts.specs.Refers.{Location, loc, Fact, Holds, IsLive, NodeRefers, PlaceRefers}
use Rattle.argot_facts.specs.declared.graphs.Edge.{Edge}
use Rattle.argot_facts.specs.declared.nodes.Node.{Node}
use Rattle.argot_facts.specs.declared.pointing.Loc.{Loc}
use Rattle.argot_facts.specs.declared.pointing.Spot.{Spot}
use Rattle.argot_facts.specs.declared.pointing.Spot.TheVariants as spot

-- exactly the definitions that reach a place which reads the register
pub record AreDefs (p : Code) (ds : List (ℕ × ℕ × ℕ)) : Type 0 where
  pub each : (d i r : ℕ) → In (d, i, r) ds ↔ IsDefinition p d i r

-- a site and one of its paths
pub record IsLocation (p : Code) (l : Loc) : Type 0 where
  pub site : l.site < length p.sites
  pub path : is_path_of p l.site l.path ≡ true

-- exactly the locations of the program, none twice; a location's number is its place in this list
pub record AreLocations (p : Code) (ls : List Loc) : Type 0 where
  pub distinct : IsDistinct ls
  pub each : (l : Loc) → In l ls ↔ IsLocation p l

abbrev pub place_of : Loc → Location
place_of l = loc l.site l.path

-- a node or a location refers to a location
pub data SpotRefers (p : Code) : Spot → Loc → Type 0 where
  by_node : {a : Node} {l : Loc} → (m : Mark) → IsMarked p a m → Holds p (NodeRefers m (place_of l)) → SpotRefers p (spot.Node a) l
  by_place : {at l : Loc} → Holds p (PlaceRefers (place_of at) (place_of l)) → SpotRefers p (spot.Loc at) l

-- exactly what spots refer to, the live functions and the calls with their targets; the latter two in order and none twice
pub record ArePoints (p : Code) (x : Pointing) : Type 0 where
  pub fits : FitsPoints p x
  pub refers : (a : Spot) (l : Loc) → In (a, l) (refers x) ↔ SpotRefers p a l
  pub live_order : IsOrdered (λ (a b : ℕ). a < b) x.live
  pub live : (h : ℕ) → In h x.live ↔ Holds p (IsLive h)
  pub targets : AreTargets p x.targets

-- by site whether it escapes, by these facts
pub record AreEscapingBy (p : Code) (F : Fact → Type 0) (flags : List Bool) : Type 0 where
  pub count : length flags ≡ length p.sites
  pub each : (s : ℕ) → s < length p.sites → IsSet flags s ↔ EscapesBy p F s

-- by site whether it escapes
abbrev pub AreEscaping : Code → List Bool → Type 0
AreEscaping p = AreEscapingBy p (Holds p)

-- the place i writes what objects hold
pub data WritesMemory (p : Code) (i : ℕ) : Type 0 where
  by_write : (at from : ℕ) → IsAt p i (Write at from) → WritesMemory p i
  by_grow : (to at : ℕ) → (items : List ℕ) → IsAt p i (Grow to at items) → WritesMemory p i

-- the place i reads it; so does a Call or Go with arguments, which may be a sink's, and for a Defer its function's exit
pub data ReadsMemory (p : Code) (i : ℕ) : Type 0 where
  by_read : (to at : ℕ) → (qs : List (List PathStep)) → IsAt p i (Read to at qs) → ReadsMemory p i
  by_grow : (to at : ℕ) → (items : List ℕ) → IsAt p i (Grow to at items) → ReadsMemory p i
  by_call : (to args : List ℕ) → (callee : Callee) → IsAt p i (Call to callee args) → 0 < length (arguments callee args) → ReadsMemory p i
  by_go : (args : List ℕ) → (callee : Callee) → IsAt p i (Go callee args) → 0 < length (arguments callee args) → ReadsMemory p i
  at_exit : (d h : ℕ) → (args : List ℕ) → (callee : Callee) → (fn : Function) → IsAt p d (Defer callee args) → IsIn p d h → IsFunction p h fn → i ≡ fn.exit → ReadsMemory p i

-- by these facts a place that reads may come after one that writes
pub record IsControlPair (p : Code) (F : Fact → Type 0) (a b : ℕ) : Type 0 where
  pub writes : WritesMemory p a
  pub reads : ReadsMemory p b
  pub follows : FollowsBy p F a b

-- exactly these pairs, in order
pub record AreFollowingBy (p : Code) (F : Fact → Type 0) (pairs : List (ℕ × ℕ)) : Type 0 where
  pub ordered : IsOrdered TargetBefore pairs
  pub each : (a b : ℕ) → In (a, b) pairs ↔ IsControlPair p F a b

abbrev pub AreFollowing : Code → List (ℕ × ℕ) → Type 0
AreFollowing p = AreFollowingBy p (Holds p)

-- the greatest number of edges of a problem
abbrev pub most_edges : ℕ
most_edges = 16777216

-- there are more edges than that: a list of so many, in order, none of which is made up
pub record HasManyEdgesBy (p : Code) (D : ℕ → ℕ → ℕ → ℕ → Type 0) (F : Fact → Type 0) (pr : Problem) : Type 0 where
  pub nodes : List Node
  pub are : AreNodes p nodes
  pub edges : List Edge
  pub ordered : IsOrdered EdgeBefore edges
  pub each : (e : Edge) → In e edges → IsNumberedBy p D F pr nodes e.from e.kind e.to
  pub many : most_edges < length edges

abbrev pub HasManyEdges : Code → Problem → Type 0
HasManyEdges p = HasManyEdgesBy p (DefinedAt p) (Holds p)

-- triples of a program: places and registers of the function of the place
pub record FitsDefs (p : Code) (ds : List (ℕ × ℕ × ℕ)) : Type 0 where
  pub from : (d i r : ℕ) → In (d, i, r) ds → d < length p.instrs
  pub to : (d i r : ℕ) → In (d, i, r) ds → i < length p.instrs
  pub reads : (d i r : ℕ) → In (d, i, r) ds → (kind : Kind) × IsAt p i kind × In r (reads kind)
