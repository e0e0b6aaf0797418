-- What a search has found, as clients see it.
use Rattle.std.specs.Prelude.{◌≡◌, ℕ, ◌+◌, ◌<◌, ◌^◌, Bool, true, List, Option, Some, None, if◌then◌else◌}
use Rattle.argot_facts.specs.Lists.{Joins}
use Rattle.argot_facts.specs.Reached.{IsEdgeIn, IsLesserRank}
use Rattle.argot_facts.specs.declared.graphs.Edge.{Edge}
use Rattle.argot_flow.specs.Searching.{AreLists, IsMarked, IsSearched}
use Rattle.argot_flow.specs.declared.search.Lists.{Lists}
use Rattle.argot_flow.specs.declared.search.Search.{Search}

-- the edges and nodes of a graph, and the node from which the last run started
pub record Reached : Type 0 where
  pub edges : List Edge
  pub nodes : ℕ
  pub start : Option ℕ

abbrev pub start_of : Bool → ℕ → Option ℕ
start_of started from = if started then Some from else None

abbrev pub seen : Lists → Search → Bool → Reached
seen y s started = record { edges = y.net.edges.now; nodes = y.net.nodes; start = start_of started s.from }

pub record IsReady (y : Lists) (s : Search) (started : Bool) : Type 0 where
  pub lists : AreLists y
  pub marked : IsMarked s
  pub nodes : s.nodes ≡ y.net.nodes
  pub few : s.nodes + s.nodes + 2 < 2 ^ 32
  pub searched : started ≡ true → IsSearched y s

-- from the start of the last run the node has this rank
abbrev pub IsRank : Reached → ℕ → ℕ → Type 0
IsRank v node rank = (from : ℕ) → v.start ≡ Some from → IsLesserRank (IsEdgeIn v.edges) from node rank

-- no realizable list joins the start of the last run to the node
abbrev pub NotReached : Reached → ℕ → Type 0
NotReached v node = (from : ℕ) → v.start ≡ Some from → Joins (IsEdgeIn v.edges) from node → ⊥
