-- The edges to arguments of sinks and externals, level by level: writes, locations, sites, arguments, calls.
use Rattle.std.specs.Prelude.{◌≡◌, ℕ, ◌+◌, ◌<◌, Bool, List, Option, Some, length, slice_get}
use Rattle.argot_links.specs.Runs.{run}
use Rattle.argot_plain.specs.Code.{Code, IsAt, IsFunction, IsIn, arguments, kind_of}
use Rattle.argot_plain.specs.Leak.{LooksInside}
use Rattle.argot_plain.specs.Lists.{In}
use Rattle.argot_plain.specs.declared.functions.Function.{Function}
use Rattle.argot_plain.specs.declared.instructions.Callee.{Callee}
use Rattle.argot_plain.specs.declared.instructions.Kind.{Kind}
use Rattle.argot_plain.specs.declared.instructions.Kind.TheVariants.{Defer}
use Rattle.argot_plain.specs.declared.problems.Problem.{Problem}
use Rattle.argot_facts.specs.Marked.{IsSet}
use Rattle.argot_facts.specs.Numbers.{node}
use Rattle.argot_facts.specs.Pointing.{Pointing, IsPlaceOf}
use Rattle.argot_facts.specs.declared.graphs.Edge.{Edge}
use Rattle.argot_facts.specs.declared.graphs.EdgeKind.TheVariants.{Reset}
use Rattle.argot_facts.specs.declared.nodes.Node.{Node}
use Rattle.argot_escape.specs.Flooding.{FoundBy, IndexLeadsTo}
use Rattle.argot_graph_edges.specs.Meeting.{MayMeetIn}
use Rattle.argot_graph_edges.specs.Rows.{IsCallAt}
use Rattle.argot_graph_edges.specs.declared.arguments.Leaf.{Leaf}
use Rattle.argot_graph_edges.specs.declared.arguments.Writes.{Writes}

-- some target of the place looks at what its arguments reach
abbrev pub LooksIn : Code → Pointing → Problem → ℕ → Type 0
LooksIn p x pr i = (g : ℕ) × In (i, g) x.targets × LooksInside p pr i g

-- where the handed values of the place i are read: of a Defer at the exit
abbrev pub reading : Option Kind → ℕ → ℕ → ℕ
reading (Some (Defer callee args)) i exit = exit
reading _ i exit = i

-- a reset to the leaf from the node number w, which writes an object of the site s and may still be there
pub record ToArgument (ns : List Node) (escaping : List Bool) (control : List (ℕ × ℕ)) (leaf : Leaf) (s w : ℕ) (e : Edge) : Type 0 where
  pub write : Node
  pub is : slice_get ns w ≡ Some write
  pub meet : MayMeetIn escaping control s write.place leaf.at
  pub edge : e ≡ record { from = w; to = leaf.node; kind = Reset }

-- of some write of the location number z
abbrev pub AtLocation : List Node → Writes → Leaf → ℕ → ℕ → Edge → Type 0
AtLocation ns writes leaf s z e = (w : ℕ) × In w (run writes.runs.now z) × ToArgument ns writes.order.now.escaping.now writes.order.now.control.now leaf s w e

-- of some location of the site
abbrev pub AtSite : Pointing → Writes → Leaf → ℕ → Edge → Type 0
AtSite x writes leaf s e = (z : ℕ) × IsPlaceOf x.locations s z × AtLocation x.nodes writes leaf s z e

abbrev pub IfSet : List Bool → (ℕ → Edge → Type 0) → ℕ → Edge → Type 0
IfSet flags R s e = IsSet flags s × R s e

-- of some site whose flag is set
abbrev pub AtSites : List Bool → (ℕ → Edge → Type 0) → Edge → Type 0
AtSites flags R e = (s : ℕ) × IfSet flags R s e

-- the edge leads to the leaf 0 of the index k of the place i, which is read at `at`, from a write of a site to which the value leads
pub record OfArgument (x : Pointing) (writes : Writes) (i at k : ℕ) (e : Edge) : Type 0 where
  pub number : ℕ
  pub is : slice_get x.nodes number ≡ Some (node i k 0)
  pub site : ℕ
  pub leads : FoundBy x (IndexLeadsTo x i k) site
  pub write : AtSite x writes (record { node = number; at = at }) site e

-- of some of so many arguments behind n results
abbrev pub OfArguments : Pointing → Writes → ℕ → ℕ → ℕ → ℕ → Edge → Type 0
OfArguments x writes i at n count e = (k : ℕ) × (k < count) × OfArgument x writes i at (n + k) e

-- of a call of a function that ends at this exit, some target of which looks inside
pub record OfCall (p : Code) (x : Pointing) (pr : Problem) (writes : Writes) (exit i : ℕ) (e : Edge) : Type 0 where
  pub callee : Callee
  pub args : List ℕ
  pub behind : ℕ
  pub call : IsCallAt p i callee args behind
  pub looks : LooksIn p x pr i
  pub argument : OfArguments x writes i (reading (kind_of (slice_get p.instrs i)) i exit) behind (length (arguments callee args)) e

abbrev pub OfFunction : Code → Pointing → Problem → Writes → ℕ → Edge → Type 0
OfFunction p x pr writes h e = (i : ℕ) × (inside : IsIn p i h) × OfCall p x pr writes inside.fn.exit i e

abbrev pub OfFunctions : Code → Pointing → Problem → Writes → Edge → Type 0
OfFunctions p x pr writes e = (h : ℕ) × OfFunction p x pr writes h e
