-- A search by layers.
use Rattle.std.specs.Prelude.{◌≡◌, ℕ, ◌+◌, ◌<◌, ◌≤◌, Bool, true, false, List, Some, length, slice_get, slice_index_or, vec_capacity}
use Rattle.argot_links.specs.Threaded.{free_count}
use Rattle.argot_facts.specs.Summaries.{ReachesWithin}
use Rattle.argot_facts.specs.declared.graphs.Edge.{Edge}
use Rattle.argot_facts.specs.Reached.{IsEdgeIn}
use Rattle.argot_summary.specs.Netted.{IsNet}
use Rattle.argot_flow.specs.Overs.{HasOvers}
use Rattle.argot_flow.specs.Steps.{way, leads, IsOver, IsStep}
use Rattle.argot_flow.specs.declared.search.Lists.{Lists}
use Rattle.argot_flow.specs.declared.search.Search.{Search}
use Rattle.argot_flow.specs.declared.search.Visit.{Visit}

-- the place of a node and way in the table of ranks
unfoldable pub place : Bool → ℕ → ℕ
place false n = n + n
place true n = n + n + 1

pub record AreLists (y : Lists) : Type 0 where
  pub net : IsNet y.net
  pub overs : HasOvers y.net y.overs.lists

abbrev pub visit_of : ℕ → Bool → ℕ → Visit
visit_of node down rank = record { node = node; down = down; rank = rank }

-- visited this way, with a rank of at most k
pub record IsVisited (vs : List Visit) (d : Bool) (n k : ℕ) : Type 0 where
  pub at : ℕ
  pub visit : Visit
  pub is : slice_get vs at ≡ Some visit
  pub down : visit.down ≡ d
  pub node : visit.node ≡ n
  pub rank : visit.rank ≤ k

-- the visit that the table has at the place x
pub record Marks (vs : List Visit) (x r : ℕ) : Type 0 where
  pub at : ℕ
  pub visit : Visit
  pub is : slice_get vs at ≡ Some visit
  pub place : place visit.down visit.node ≡ x
  pub rank : visit.rank + 1 ≡ r

abbrev pub rank_at : List ℕ → ℕ → ℕ
rank_at ranks x = slice_index_or ranks x 0

-- the table has exactly what is visited, and there is room for the rest
pub record IsMarked (s : Search) : Type 0 where
  pub size : length s.ranks.items ≡ s.nodes + s.nodes
  pub room : s.nodes + s.nodes ≤ vec_capacity s.visits
  pub count : length s.visits.items + free_count s.ranks.items ≡ s.nodes + s.nodes
  pub each : (i : ℕ) (v : Visit) → slice_get s.visits.items i ≡ Some v
      → rank_at s.ranks.items (place v.down v.node) ≡ v.rank + 1
  pub known : (x : ℕ) → 0 < rank_at s.ranks.items x → Marks s.visits.items x (rank_at s.ranks.items x)
  pub inside : (i : ℕ) (v : Visit) → slice_get s.visits.items i ≡ Some v → v.node < s.nodes

abbrev pub IsWithin : Lists → Search → Bool → ℕ → ℕ → Type 0
IsWithin y s d r n = ReachesWithin (IsEdgeIn y.net.edges.now) s.from (way d) r n

abbrev pub Steps : Lists → Bool → ℕ → Bool → ℕ → Type 0
Steps y = IsStep (IsEdgeIn y.net.edges.now)

pub record IsState (y : Lists) (s : Search) (k : ℕ) : Type 0 where
  pub nodes : s.nodes ≡ y.net.nodes
  pub marked : IsMarked s
  pub low : (i : ℕ) (v : Visit) → slice_get s.visits.items i ≡ Some v → v.rank ≤ k
  pub sound : (i : ℕ) (v : Visit) → slice_get s.visits.items i ≡ Some v → IsWithin y s v.down v.rank v.node

-- the first of the new visits are the old ones
pub record Keeps (old new : List Visit) : Type 0 where
  pub longer : length old ≤ length new
  pub each : (i : ℕ) (v : Visit) → slice_get old i ≡ Some v → slice_get new i ≡ Some v
  pub back : (i : ℕ) (v : Visit) → i < length old → slice_get new i ≡ Some v → slice_get old i ≡ Some v

-- nothing is new but visits of the rank k
pub record Grows (y : Lists) (s t : Search) (k : ℕ) : Type 0 where
  pub state : IsState y t k
  pub keeps : Keeps s.visits.items t.visits.items
  pub late : (i : ℕ) (v : Visit) → length s.visits.items ≤ i → slice_get t.visits.items i ≡ Some v → v.rank ≡ k
  pub from : t.from ≡ s.from

-- exactly what is reached from the start, with ranks
pub record IsSearched (y : Lists) (s : Search) : Type 0 where
  pub nodes : s.nodes ≡ y.net.nodes
  pub marked : IsMarked s
  pub sound : (i : ℕ) (v : Visit) → slice_get s.visits.items i ≡ Some v → IsWithin y s v.down v.rank v.node
  pub complete : (d : Bool) (r n : ℕ) → IsWithin y s d r n → IsVisited s.visits.items d n r

-- what a step from the visit leads to along edges is visited
abbrev pub VisitsEdges : Lists → Visit → List Visit → ℕ → Type 0
VisitsEdges y v vs k = (e : Edge) (j : ℕ) (d : Bool) → slice_get y.net.edges.now j ≡ Some e → e.from ≡ v.node
    → leads v.down e.kind ≡ Some d → IsVisited vs d e.to k

-- along the edge j alone
abbrev pub VisitsEdge : Lists → Visit → List Visit → ℕ → ℕ → Type 0
VisitsEdge y v vs k j = (e : Edge) (d : Bool) → slice_get y.net.edges.now j ≡ Some e
    → leads v.down e.kind ≡ Some d → IsVisited vs d e.to k

-- what a call from the visit leads over to is visited
abbrev pub VisitsOvers : Lists → Visit → List Visit → ℕ → Type 0
VisitsOvers y v vs k = (n : ℕ) → IsOver (IsEdgeIn y.net.edges.now) v.node n → IsVisited vs v.down n k

-- all steps from the visit lead to what is visited
abbrev pub VisitsSteps : Lists → Visit → List Visit → ℕ → Type 0
VisitsSteps y v vs k = (d : Bool) (n : ℕ) → Steps y v.down v.node d n → IsVisited vs d n k

-- and so for the visits from one number on, up to another
abbrev pub VisitsRound : Lists → ℕ → ℕ → List Visit → ℕ → Type 0
VisitsRound y first end vs k = (i n : ℕ) (v : Visit) (d : Bool) → first ≤ i → i < end → slice_get vs i ≡ Some v
    → Steps y v.down v.node d n → IsVisited vs d n k

-- visits before this number have lower ranks
abbrev pub AreOlder : List Visit → ℕ → ℕ → Type 0
AreOlder vs end k = (i : ℕ) (v : Visit) → i < end → slice_get vs i ≡ Some v → v.rank < k

-- no visit has a greater rank
abbrev pub AreLow : List Visit → ℕ → Type 0
AreLow vs k = (i : ℕ) (v : Visit) → slice_get vs i ≡ Some v → v.rank ≤ k

-- nothing but x is new
abbrev pub AddsOnly : List Visit → List Visit → Visit → Type 0
AddsOnly old new x = (i : ℕ) (v : Visit) → length old ≤ i → slice_get new i ≡ Some v → v ≡ x
