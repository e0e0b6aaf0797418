-- Flows between nodes that realizable lists join.
use Rattle.std.specs.Prelude.{◌≡◌, ◌⊎◌, ◌↔◌, ℕ, List, Some, slice_get}
use Rattle.argot_plain.specs.Code.{Code}
use Rattle.argot_plain.specs.Lists.{In}
use Rattle.argot_plain.specs.declared.problems.Problem.{Problem}
use Rattle.argot_facts.specs.Flows as flowing
use Rattle.argot_facts.specs.Lists.{Joins}
use Rattle.argot_facts.specs.Reached.{IsEdgeIn}
use Rattle.argot_facts.specs.declared.findings.Flow.{Flow}
use Rattle.argot_facts.specs.declared.graphs.Edge.{Edge}
use Rattle.argot_facts.specs.declared.nodes.Node.{Node}
use Rattle.argot_flow_ends.specs.declared.links.Links.{Links}
use Rattle.argot_flow_ends.specs.declared.lists.End.{End}

-- the flow of two nodes
abbrev pub flow_of : ℕ → Node → Node → ℕ → Flow
flow_of problem a b k = record { problem = problem; source = a.place; sink = b.place; arg = k }

-- a realizable list joins the node of this number to that of the end, and this is their flow under the problem of that number
pub record IsLink (edges : List Edge) (ns : List Node) (problem s : ℕ) (e : End) (f : Flow) : Type 0 where
  pub joins : Joins (IsEdgeIn edges) s e.node
  pub from : Node
  pub to : Node
  pub is_from : slice_get ns s ≡ Some from
  pub is_to : slice_get ns e.node ≡ Some to
  pub flow : f ≡ flow_of problem from to e.arg

-- some of these ends does
abbrev pub IsLinkToSome : List Edge → List Node → ℕ → ℕ → List End → Flow → Type 0
IsLinkToSome edges ns problem s ends f = (e : End) × In e ends × IsLink edges ns problem s e f

-- and from some of these nodes
abbrev pub IsLinkOfSome : List Edge → List Node → ℕ → List ℕ → List End → Flow → Type 0
IsLinkOfSome edges ns problem sources ends f = (s : ℕ) × In s sources × IsLinkToSome edges ns problem s ends f

-- new has the flows of old and those with the property, and no others
abbrev pub AddsFlows : (Flow → Type 0) → List Flow → List Flow → Type 0
AddsFlows A old new = (f : Flow) → (In f new → In f old ⊎ A f) × (In f old ⊎ A f → In f new)

-- the flow of that source and end is added, where there is one; those of that source; and those of these sources
abbrev pub AddsLink : Links → ℕ → End → List Flow → List Flow → Type 0
AddsLink y s e = AddsFlows (IsLink y.graph.now.edges y.graph.now.nodes y.problem s e)

abbrev pub AddsLinks : Links → ℕ → List Flow → List Flow → Type 0
AddsLinks y s = AddsFlows (IsLinkToSome y.graph.now.edges y.graph.now.nodes y.problem s y.ends.now)

abbrev pub AddsAllLinks : Links → List ℕ → List Flow → List Flow → Type 0
AddsAllLinks y sources = AddsFlows (IsLinkOfSome y.graph.now.edges y.graph.now.nodes y.problem sources y.ends.now)

-- exactly the flows of the problem, in any order
abbrev pub AreLinks : Code → Problem → List Flow → Type 0
AreLinks p pr flows = (f : Flow) → In f flows ↔ (f.problem ≡ pr.number) × flowing.Flow p pr f.source f.sink f.arg
