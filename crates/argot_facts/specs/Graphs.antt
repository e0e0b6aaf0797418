-- Nodes in node order, their numbers, and the graph of a problem.
use Rattle.std.specs.Prelude.{◌≡◌, ◌↔◌, ℕ, ◌+◌, ◌<◌, List, Some, length, slice_get}
use Rattle.argot_plain.specs.Code.{Code}
use Rattle.argot_plain.specs.Lists.{In}
use Rattle.argot_plain.specs.Nodes.{Mark, HasLeaf}
use Rattle.argot_plain.specs.declared.problems.Problem.{Problem}
use Rattle.argot_facts.specs.Edges.{MovesBy}
use Rattle.argot_facts.specs.Reaching.{DefinedAt}
use Rattle.argot_facts.specs.Refers.{Fact, Holds}
use Rattle.argot_facts.specs.declared.graphs.Edge.{Edge}
use Rattle.argot_facts.specs.declared.graphs.EdgeKind.{EdgeKind}
use Rattle.argot_facts.specs.declared.graphs.EdgeKind.TheVariants.{Plain, Call, Return, Reset}
use Rattle.argot_facts.specs.declared.nodes.Node.{Node}

-- the nodes and edges of a graph, as lists
pub record Drawn : Type 0 where
  pub nodes : List Node
  pub edges : List Edge

-- node order: by place, index and leaf
pub data IsBefore (a b : Node) : Type 0 where
  by_place : a.place < b.place → IsBefore a b
  by_index : a.place ≡ b.place → a.index < b.index → IsBefore a b
  by_leaf : a.place ≡ b.place → a.index ≡ b.index → a.leaf < b.leaf → IsBefore a b

-- kinds in order, calls and returns by their places
pub data KindBefore : EdgeKind → EdgeKind → Type 0 where
  plain_call : {c : ℕ} → KindBefore Plain (Call c)
  plain_return : {c : ℕ} → KindBefore Plain (Return c)
  plain_reset : KindBefore Plain Reset
  call_call : {c d : ℕ} → c < d → KindBefore (Call c) (Call d)
  call_return : {c d : ℕ} → KindBefore (Call c) (Return d)
  call_reset : {c : ℕ} → KindBefore (Call c) Reset
  return_return : {c d : ℕ} → c < d → KindBefore (Return c) (Return d)
  return_reset : {c : ℕ} → KindBefore (Return c) Reset

-- edges in order: by their ends, then by kind
pub data EdgeBefore (a b : Edge) : Type 0 where
  by_from : a.from < b.from → EdgeBefore a b
  by_to : a.from ≡ b.from → a.to < b.to → EdgeBefore a b
  by_kind : a.from ≡ b.from → a.to ≡ b.to → KindBefore a.kind b.kind → EdgeBefore a b

-- each item stands before the next one, so that none stands twice
abbrev pub IsOrdered : {A : Type 0} → (A → A → Type 0) → List A → Type 0
IsOrdered {A} Before xs = (k : ℕ) (a b : A) → slice_get xs k ≡ Some a → slice_get xs (k + 1) ≡ Some b → Before a b

-- both lists are ordered, and edges lead between nodes
pub record IsGraph (d : Drawn) : Type 0 where
  pub nodes : IsOrdered IsBefore d.nodes
  pub edges : IsOrdered EdgeBefore d.edges
  pub ends : (e : Edge) → In e d.edges → (e.from < length d.nodes) × (e.to < length d.nodes)

-- a node of the program, and the mark that names it by its path
pub record IsMarked (p : Code) (a : Node) (m : Mark) : Type 0 where
  pub place : a.place ≡ m.place
  pub index : a.index ≡ m.index
  pub has : HasLeaf p m.place m.index a.leaf m.leaf

-- by these definitions and facts an edge between nodes
pub record IsEdgeBy (p : Code) (D : ℕ → ℕ → ℕ → ℕ → Type 0) (F : Fact → Type 0) (pr : Problem) (a : Node) (kind : EdgeKind) (b : Node) : Type 0 where
  pub from : Mark
  pub to : Mark
  pub is_from : IsMarked p a from
  pub is_to : IsMarked p b to
  pub moves : MovesBy p D F pr from kind to

abbrev pub IsEdge : Code → Problem → Node → EdgeKind → Node → Type 0
IsEdge p = IsEdgeBy p (DefinedAt p) (Holds p)

-- exactly the nodes of the program, in node order; a node's number is its place in this list
pub record AreNodes (p : Code) (ns : List Node) : Type 0 where
  pub ordered : IsOrdered IsBefore ns
  pub each : (a : Node) → In a ns ↔ ((m : Mark) × IsMarked p a m)

-- an edge between numbers of nodes
pub record IsNumberedBy (p : Code) (D : ℕ → ℕ → ℕ → ℕ → Type 0) (F : Fact → Type 0) (pr : Problem) (ns : List Node) (a : ℕ) (kind : EdgeKind) (b : ℕ) : Type 0 where
  pub from : Node
  pub to : Node
  pub is_from : slice_get ns a ≡ Some from
  pub is_to : slice_get ns b ≡ Some to
  pub edge : IsEdgeBy p D F pr from kind to

abbrev pub IsNumbered : Code → Problem → List Node → ℕ → EdgeKind → ℕ → Type 0
IsNumbered p = IsNumberedBy p (DefinedAt p) (Holds p)

-- exactly the edges of the problem
pub record IsGraphBy (p : Code) (D : ℕ → ℕ → ℕ → ℕ → Type 0) (F : Fact → Type 0) (pr : Problem) (d : Drawn) : Type 0 where
  pub nodes : AreNodes p d.nodes
  pub each : (e : Edge) → In e d.edges ↔ IsNumberedBy p D F pr d.nodes e.from e.kind e.to

abbrev pub IsGraphOf : Code → Problem → Drawn → Type 0
IsGraphOf p = IsGraphBy p (DefinedAt p) (Holds p)

-- the kind of an edge that is turned round
abbrev pub turned_kind : EdgeKind → EdgeKind
turned_kind Plain = Plain
turned_kind (Call c) = Return c
turned_kind (Return c) = Call c
turned_kind Reset = Reset

-- each edge led back
abbrev pub Turned : {N : Type 0} → (N → EdgeKind → N → Type 0) → N → EdgeKind → N → Type 0
Turned E a kind b = E b (turned_kind kind) a
