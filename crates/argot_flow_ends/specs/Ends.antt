-- Which nodes flows begin at and end in.
use Rattle.std.specs.Prelude.{◌≡◌, ◌↔◌, ℕ, ◌+◌, ◌<◌, true, List, Some, length, slice_get}
use Rattle.argot_plain.specs.Code.{Code, IsAt, Hands, arguments}
use Rattle.argot_plain.specs.Counts.{is_source_place}
use Rattle.argot_plain.specs.Lists.{In}
use Rattle.argot_plain.specs.Nodes.{Mark}
use Rattle.argot_plain.specs.declared.instructions.Callee.{Callee}
use Rattle.argot_plain.specs.declared.instructions.Kind.{Kind}
use Rattle.argot_plain.specs.declared.instructions.Kind.TheVariants.{Call}
use Rattle.argot_plain.specs.declared.problems.Problem.{Problem}
use Rattle.argot_facts.specs.Flows.{IsSource, IsArgument}
use Rattle.argot_facts.specs.Graphs.{IsMarked}
use Rattle.argot_facts.specs.declared.nodes.Node.{Node}
use Rattle.argot_flow_ends.specs.Roles.{HasRole}
use Rattle.argot_flow_ends.specs.declared.lists.End.{End}

-- the node is one of a source place
pub record IsSourceNode (p : Code) (pr : Problem) (a : Node) : Type 0 where
  pub start : Mark
  pub is : IsMarked p a start
  pub source : IsSource p pr a.place start

-- the node is one of the argument k of a sink
pub record IsArgumentNode (p : Code) (pr : Problem) (a : Node) (k : ℕ) : Type 0 where
  pub end : Mark
  pub is : IsMarked p a end
  pub argument : IsArgument p pr a.place k end

-- the index is that of a result of a Call
abbrev pub IsResult : Kind → ℕ → Type 0
IsResult (Call to callee args) k = k < length to
IsResult kind k = ⊥

-- the index is that of the argument k, behind n results
abbrev pub IsArgumentBehind : Callee → List ℕ → ℕ → ℕ → ℕ → Type 0
IsArgumentBehind callee args n index k = (k < length (arguments callee args)) × (index ≡ n + k)

-- the index is that of the argument k of a Call, Go or Defer
abbrev pub IsArgumentAt : Kind → ℕ → ℕ → Type 0
IsArgumentAt kind index k = (callee : Callee) × (args : List ℕ) × (n : ℕ) × Hands kind callee args n × IsArgumentBehind callee args n index k

-- the Read or Move at the node's place is a source, and the node is its result
abbrev pub IsNamed : Problem → Node → Type 0
IsNamed pr a = (a.index ≡ 0) × (is_source_place pr a.place ≡ true)

-- the node is a result of a Call of a source
abbrev pub IsGiven : Code → Problem → Node → Type 0
IsGiven p pr a = (kind : Kind) × IsAt p a.place kind × IsResult kind a.index × HasRole p pr.sources a.place

-- the node is the argument k of a Call, Go or Defer of a sink
abbrev pub IsHanded : Code → Problem → Node → ℕ → Type 0
IsHanded p pr a k = (kind : Kind) × IsAt p a.place kind × IsArgumentAt kind a.index k × HasRole p pr.sinks a.place

-- exactly the numbers of source nodes
abbrev pub AreSources : Code → Problem → List Node → List ℕ → Type 0
AreSources p pr ns sources = (n : ℕ) → In n sources ↔ ((a : Node) × (slice_get ns n ≡ Some a) × IsSourceNode p pr a)

-- exactly the nodes of arguments of sinks
abbrev pub AreArguments : Code → Problem → List Node → List End → Type 0
AreArguments p pr ns ends = (e : End) → In e ends ↔ ((a : Node) × (slice_get ns e.node ≡ Some a) × IsArgumentNode p pr a e.arg)
