-- Lists of what calls lead over.
use Rattle.std.specs.Prelude.{◌≡◌, ℕ, ◌<◌, List, Some, length, slice_get}
use Rattle.argot_facts.specs.Reached.{IsEdgeIn}
use Rattle.argot_facts.specs.declared.graphs.Edge.{Edge}
use Rattle.argot_facts.specs.declared.graphs.EdgeKind.TheVariants.{Call, Return}
use Rattle.argot_facts.specs.declared.summaries.Same.{Same}
use Rattle.argot_summary.specs.Buckets.{IsListed}
use Rattle.argot_summary.specs.declared.net.Net.{Net}
use Rattle.argot_summary.specs.Stepping.{Edged}
use Rattle.argot_flow.specs.Steps.{IsOver}
use Rattle.argot_flow.specs.declared.overs.Entry.{Entry}

-- exactly what calls lead over, node by node
pub record HasOvers (x : Net) (lists : List (List ℕ)) : Type 0 where
  pub heads : length lists ≡ x.nodes
  pub each : (m n : ℕ) → IsOver (IsEdgeIn x.edges.now) m n → IsListed lists m n
  pub only : (m n : ℕ) → IsListed lists m n → IsOver (IsEdgeIn x.edges.now) m n
  pub inside : (m n : ℕ) → IsListed lists m n → n < x.nodes

-- nothing but what calls lead over
pub record AreOvers (x : Net) (lists : List (List ℕ)) : Type 0 where
  pub heads : length lists ≡ x.nodes
  pub only : (m n : ℕ) → IsListed lists m n → IsOver (IsEdgeIn x.edges.now) m n
  pub inside : (m n : ℕ) → IsListed lists m n → n < x.nodes

-- and what was listed still is
pub record NotesOvers (x : Net) (old new : List (List ℕ)) : Type 0 where
  pub overs : AreOvers x new
  pub kept : (m n : ℕ) → IsListed old m n → IsListed new m n

-- whatever calls the entry leads over to n
abbrev pub LeadsOver : Net → Entry → ℕ → Type 0
LeadsOver x entry n = (m : ℕ) → Edged x m (Call entry.call) entry.node → IsOver (IsEdgeIn x.edges.now) m n

-- and n is listed for it
abbrev pub ListsCall : Net → List (List ℕ) → Entry → ℕ → Type 0
ListsCall x lists entry n = (m : ℕ) → Edged x m (Call entry.call) entry.node → IsListed lists m n

-- as far as the edge k shows it
abbrev pub ListsCallAt : Net → List (List ℕ) → Entry → ℕ → ℕ → Type 0
ListsCallAt x lists entry n k = (e : Edge) → slice_get x.edges.now k ≡ Some e → e.to ≡ entry.node
    → e.kind ≡ Call entry.call → IsListed lists e.from n

-- the end of the edge k is listed, if it is a return, for what calls the start of the fact
abbrev pub ListsReturnAt : Net → List (List ℕ) → Same → ℕ → Type 0
ListsReturnAt x lists fact k = (e : Edge) (c m : ℕ) → slice_get x.edges.now k ≡ Some e → e.kind ≡ Return c
    → Edged x m (Call c) fact.from → IsListed lists m e.to

-- and so for each return from the end of the fact
abbrev pub ListsReturns : Net → List (List ℕ) → Same → Type 0
ListsReturns x lists fact = (c m n : ℕ) → Edged x fact.to (Return c) n → Edged x m (Call c) fact.from
    → IsListed lists m n
