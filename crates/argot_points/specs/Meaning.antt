-- What rules say of the points-to relation of a program, where nodes and locations are known by their numbers.
use Rattle.std.specs.Prelude.{◌≡◌, ℕ, ◌<◌, Bool, true, false, List, [], ◌++◌, Some, None, length, slice_get}
use Rattle.argot_plain.specs.Lists.{In}
use Rattle.argot_plain.specs.Code.{Code, IsAt, IsFunction, Hands, arguments, param_of}
use Rattle.argot_plain.specs.Machine.{is_of_type}
use Rattle.argot_plain.specs.Nodes.{Mark}
use Rattle.argot_plain.specs.declared.functions.Function.{Function}
use Rattle.argot_plain.specs.declared.instructions.Callee.{Callee}
use Rattle.argot_plain.specs.declared.instructions.Callee.TheVariants.{Static, Value, Method}
use Rattle.argot_plain.specs.declared.instructions.Kind.{Kind}
use Rattle.argot_plain.specs.declared.instructions.Kind.TheVariants.{Leave}
use Rattle.argot_plain.specs.declared.sites.Site.{Site}
use Rattle.argot_text.specs.declared.path.PathStep.{PathStep}
use Rattle.argot_facts.specs.Exact.{place_of}
use Rattle.argot_facts.specs.Graphs.{IsMarked}
use Rattle.argot_facts.specs.Numbers.{node, location, leaves_of}
use Rattle.argot_facts.specs.Refers.{Holds, IsLive, NodeRefers, PlaceRefers}
use Rattle.argot_facts.specs.declared.nodes.Node.{Node}
use Rattle.argot_facts.specs.declared.pointing.Loc.{Loc}
use Rattle.argot_points_rules.specs.declared.rules.Owned.{Owned}
use Rattle.argot_points_rules.specs.declared.rules.Rule.{Rule}
use Rattle.argot_points_rules.specs.declared.rules.Rule.TheVariants.{Put, Copy, Shift, Keep, Load, Store, Aim, Enter, Choose, Return, Fresh}
use Rattle.argot_points.specs.declared.system.System.{System}

-- the node with this number
abbrev pub IsRow : System → ℕ → Node → Type 0
IsRow s n a = slice_get s.nodes.items n ≡ Some a

-- the location with this number
abbrev pub IsColumn : System → ℕ → Loc → Type 0
IsColumn s y l = slice_get s.locations.items y ≡ Some l

-- the node number n refers to the location number y
pub record NodeTo (s : System) (n y : ℕ) : Type 0 where
  pub node : Node
  pub is : IsRow s n node
  pub mark : Mark
  pub marked : IsMarked s.program.now node mark
  pub to : Loc
  pub at : IsColumn s y to
  pub holds : Holds s.program.now (NodeRefers mark (place_of to))

-- the location number z does
pub record PlaceTo (s : System) (z y : ℕ) : Type 0 where
  pub from : Loc
  pub is : IsColumn s z from
  pub to : Loc
  pub at : IsColumn s y to
  pub holds : Holds s.program.now (PlaceRefers (place_of from) (place_of to))

-- the function is live
pub record LiveAt (s : System) (g : ℕ) : Type 0 where
  pub holds : Holds s.program.now (IsLive g)

-- the location y, moved along the path, is z
pub record IsMoved (s : System) (y : ℕ) (path : List PathStep) (z : ℕ) : Type 0 where
  pub from : Loc
  pub is : IsColumn s y from
  pub at : IsColumn s z (location from.site (from.path ++ path))

-- what the location y is part of is or implements the type
pub record IsKept (s : System) (y target : ℕ) : Type 0 where
  pub loc : Loc
  pub is : IsColumn s y loc
  pub kept : is_of_type s.program.now target (slice_get s.program.now.sites loc.site) ≡ true

-- the objects of the site, as a whole
abbrev pub IsRoot : System → ℕ → ℕ → Type 0
IsRoot s site y = IsColumn s y (location site [])

-- the place is a Call, Go or Defer with this callee and these arguments, behind n results
pub record IsCall (p : Code) (i : ℕ) (callee : Callee) (args : List ℕ) (n : ℕ) : Type 0 where
  pub kind : Kind
  pub is : IsAt p i kind
  pub hands : Hands kind callee args n

-- the place is a Call, Go or Defer with this callee
pub record HasCallee (p : Code) (i : ℕ) (callee : Callee) : Type 0 where
  pub args : List ℕ
  pub behind : ℕ
  pub call : IsCall p i callee args behind

-- an object of the site stands for the function g, which takes the reference or doesn't
pub record IsValued (s : System) (site g : ℕ) (takes : Bool) : Type 0 where
  pub here : Site
  pub at : slice_get s.program.now.sites site ≡ Some here
  pub named : here.function ≡ Some g
  pub fn : Function
  pub is : IsFunction s.program.now g fn
  pub env : takes ≡ fn.has_env

-- g is the method of this name of what an object of the site holds
pub record IsDispatched (s : System) (site : ℕ) (name : List ℕ) (g : ℕ) : Type 0 where
  pub here : Site
  pub at : slice_get s.program.now.sites site ≡ Some here
  pub listed : In (here.dynamic, name, g) s.program.now.methods

-- a callee means the function at an object of the site
pub data MeansAt (s : System) (site : ℕ) : Callee → ℕ → Bool → Type 0 where
  by_value : {g : ℕ} {takes : Bool} → (r : ℕ) → IsValued s site g takes → MeansAt s site (Value r) g takes
  by_method : {g : ℕ} → (r : ℕ) → (name : List ℕ) → IsDispatched s site name g → MeansAt s site (Method r name) g false

-- and at the object of which the location y is a part
pub record Means (s : System) (callee : Callee) (y g : ℕ) (takes : Bool) : Type 0 where
  pub loc : Loc
  pub is : IsColumn s y loc
  pub means : MeansAt s loc.site callee g takes

-- g is a target of the place, where its callee is a number or by what the node `by` refers to in R
pub data Aimed (s : System) (R : ℕ → ℕ → Type 0) (i : ℕ) (by : Node) (g : ℕ) : Bool → Type 0 where
  by_number : (args : List ℕ) → (n : ℕ) → IsCall s.program.now i (Static g) args n → Aimed s R i by g false
  by_object : {takes : Bool} → (callee : Callee) → (args : List ℕ) → (n row y : ℕ) → IsCall s.program.now i callee args n
      → IsRow s row by → R row y → Means s callee y g takes → Aimed s R i by g takes

-- the node number m is at the index k of the place the leaf with the path, of these leaves
pub record IsLeafRow (s : System) (i k : ℕ) (leaves : List (List PathStep)) (path : List PathStep) (m : ℕ) : Type 0 where
  pub leaf : ℕ
  pub at : slice_get leaves leaf ≡ Some path
  pub row : IsRow s m (node i k leaf)

-- the handed value k of the place becomes the parameter j of a target that takes the reference or doesn't
pub record IsTaken (s : System) (i : ℕ) (takes : Bool) (k j : ℕ) : Type 0 where
  pub callee : Callee
  pub args : List ℕ
  pub behind : ℕ
  pub call : IsCall s.program.now i callee args behind
  pub taken : param_of takes (length (arguments callee args)) k ≡ Some j

-- the node number m is the leaf with the path of the parameter j of g
pub record IsParamOf (s : System) (g j : ℕ) (path : List PathStep) (m : ℕ) : Type 0 where
  pub fn : Function
  pub is : IsFunction s.program.now g fn
  pub within : j < fn.params
  pub row : IsLeafRow s fn.entry j (leaves_of fn j) path m

-- the handed value k of the place becomes, at the leaf of the path, the node number m: a parameter of g
pub record IsParam (s : System) (i g : ℕ) (takes : Bool) (k : ℕ) (path : List PathStep) (m : ℕ) : Type 0 where
  pub param : ℕ
  pub taken : IsTaken s i takes k param
  pub of : IsParamOf s g param path m

-- by the location y, at which the callee means a function, the handed value k of the place becomes the node number m: the leaf
-- with the empty path of a parameter of that function
pub record IsChosenBy (s : System) (callee : Callee) (i k y m : ℕ) : Type 0 where
  pub function : ℕ
  pub takes : Bool
  pub means : Means s callee y function takes
  pub param : IsParam s i function takes k [] m

pub record IsChosen (s : System) (i k y m : ℕ) : Type 0 where
  pub callee : Callee
  pub there : HasCallee s.program.now i callee
  pub by : IsChosenBy s callee i k y m

-- the function g hands back the register as the value of index k
pub record IsReturned (s : System) (g k register : ℕ) : Type 0 where
  pub fn : Function
  pub is : IsFunction s.program.now g fn
  pub from : List ℕ
  pub leaves : IsAt s.program.now fn.leave (Leave from)
  pub value : slice_get from k ≡ Some register

-- what g, which has a body, hands back with the index k is, at the leaf of the path, the node number m
pub record IsHanded (s : System) (g k : ℕ) (path : List PathStep) (m : ℕ) : Type 0 where
  pub register : ℕ
  pub returned : IsReturned s g k register
  pub body : returned.fn.external ≡ None
  pub row : IsLeafRow s returned.fn.leave k (leaves_of returned.fn register) path m

-- g is an external
pub record IsOutside (s : System) (g : ℕ) : Type 0 where
  pub fn : Function
  pub is : IsFunction s.program.now g fn
  pub flows : Bool
  pub external : fn.external ≡ Some flows

-- what a rule of a call says of a target
abbrev pub HandHolds : System → Rule → ℕ → Bool → Type 0
HandHolds s (Aim i by) g takes = LiveAt s g
HandHolds s (Enter i by k path source) g takes = (n m y : ℕ) → IsParam s i g takes k path m → IsRow s n source → NodeTo s n y → NodeTo s m y
HandHolds s (Return i by k path to) g takes = (n m y : ℕ) → IsHanded s g k path m → IsRow s n to → NodeTo s m y → NodeTo s n y
HandHolds s (Fresh i by to site) g takes = (n y : ℕ) → IsOutside s g → IsRow s n to → IsRoot s site y → NodeTo s n y
HandHolds s _ g takes = ⊥

-- what a rule says
abbrev pub RuleHolds : System → Rule → Type 0
RuleHolds s (Put to site) = (n y : ℕ) → IsRow s n to → IsRoot s site y → NodeTo s n y
RuleHolds s (Copy to source) = (n m y : ℕ) → IsRow s n to → IsRow s m source → NodeTo s m y → NodeTo s n y
RuleHolds s (Shift to source path) = (n m : ℕ) → IsRow s n to → IsRow s m source → (y : ℕ) → NodeTo s m y → (z : ℕ) → IsMoved s y path z → NodeTo s n z
RuleHolds s (Keep to source target) = (n m : ℕ) → IsRow s n to → IsRow s m source → (y : ℕ) → NodeTo s m y → IsKept s y target → NodeTo s n y
RuleHolds s (Load to at path) = (n m : ℕ) → IsRow s n to → IsRow s m at → (y : ℕ) → NodeTo s m y → (z : ℕ) → IsMoved s y path z → (w : ℕ) → PlaceTo s z w → NodeTo s n w
RuleHolds s (Store at path source) = (n m : ℕ) → IsRow s n source → IsRow s m at → (y : ℕ) → NodeTo s m y → (z : ℕ) → IsMoved s y path z → (w : ℕ) → NodeTo s n w → PlaceTo s z w
RuleHolds s (Aim i by) = (g : ℕ) (takes : Bool) → Aimed s (NodeTo s) i by g takes → HandHolds s (Aim i by) g takes
RuleHolds s (Enter i by k path source) = (g : ℕ) (takes : Bool) → Aimed s (NodeTo s) i by g takes → HandHolds s (Enter i by k path source) g takes
RuleHolds s (Choose i by k) = (n y m : ℕ) → IsRow s n by → NodeTo s n y → IsChosen s i k y m → NodeTo s m y
RuleHolds s (Return i by k path to) = (g : ℕ) (takes : Bool) → Aimed s (NodeTo s) i by g takes → HandHolds s (Return i by k path to) g takes
RuleHolds s (Fresh i by to site) = (g : ℕ) (takes : Bool) → Aimed s (NodeTo s) i by g takes → HandHolds s (Fresh i by to site) g takes

-- each rule says what is so, where its function is live
abbrev pub RulesHold : System → Type 0
RulesHold s = (k : ℕ) (o : Owned) → slice_get s.rules.items k ≡ Some o → LiveAt s o.function → RuleHolds s o.rule
