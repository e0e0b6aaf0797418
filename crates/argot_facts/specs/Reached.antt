-- The edges of a list, and what Up and Down reach together.
use Rattle.std.specs.Prelude.{ℕ, ◌≤◌, List}
use Rattle.argot_plain.specs.Lists.{In}
use Rattle.argot_facts.specs.Summaries.{Way, ReachesWithin, ReachRank}
use Rattle.argot_facts.specs.declared.graphs.Edge.{Edge}
use Rattle.argot_facts.specs.declared.graphs.EdgeKind.{EdgeKind}

-- the list has an edge of this kind from a to b
abbrev pub IsEdgeIn : List Edge → ℕ → EdgeKind → ℕ → Type 0
IsEdgeIn edges a kind b = In (record { from = a; to = b; kind = kind }) edges

module _ {N : Type 0} (E : N → EdgeKind → N → Type 0) where
  -- s reaches n in one of the two ways, at some round
  pub record Reaches (s n : N) : Type 0 where
    pub way : Way
    pub rounds : ℕ
    pub within : ReachesWithin E s way rounds n

  -- the lesser of the ranks of the two ways
  pub record IsLesserRank (s n : N) (r : ℕ) : Type 0 where
    pub way : Way
    pub has : ReachRank E s way n r
    pub least : (other : Way) (k : ℕ) → ReachRank E s other n k → r ≤ k
