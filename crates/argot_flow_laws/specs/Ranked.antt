-- That facts unfold, and that a node which is reached has a trace where ranks are known.
use Rattle.std.specs.Prelude.{ℕ, ◌⊎◌, List}
use Rattle.argot_facts.specs.Drawing.{IsRealizable}
use Rattle.argot_facts.specs.Reached.{IsEdgeIn, Reaches}
use Rattle.argot_facts.specs.Summaries.{Way, HasRank, ReachRank}
use Rattle.argot_facts.specs.Traces.{IsTraceTo, SameHops}
use Rattle.argot_facts.specs.declared.findings.Hop.{Hop}
use Rattle.argot_facts.specs.declared.graphs.Edge.{Edge}
use Rattle.argot_facts.specs.declared.graphs.EdgeKind.{EdgeKind}

module _ (E : ℕ → EdgeKind → ℕ → Type 0) where
  -- there is a rank of n in this way, or there is none
  abbrev pub KnowsRank : ℕ → Way → ℕ → Type 0
  KnowsRank s w n = ((r : ℕ) × ReachRank E s w n r) ⊎ ((r : ℕ) → ReachRank E s w n r → ⊥)

  abbrev pub Unfolds : ℕ → ℕ → Type 0
  Unfolds p n = (hops : List Hop) × SameHops E p n hops

  abbrev pub HasTrace : ℕ → ℕ → Type 0
  HasTrace s n = (trace : List Hop) × IsTraceTo E s n trace

-- the trace from a to b stands for a realizable list
abbrev pub DrawsTrace : List Edge → ℕ → ℕ → List Hop → Type 0
DrawsTrace edges a b trace = IsTraceTo (IsEdgeIn edges) a b trace → IsRealizable (IsEdgeIn edges) a b trace

-- for each node and way that s may reach there is a rank, or there is none
abbrev pub HasRanks : List Edge → ℕ → Type 0
HasRanks edges s = (w : Way) (n : ℕ) → KnowsRank (IsEdgeIn edges) s w n

-- each summary fact along these edges unfolds to hops
abbrev pub EachUnfolds : List Edge → Type 0
EachUnfolds edges = (p n r : ℕ) → HasRank (IsEdgeIn edges) p n r → Unfolds (IsEdgeIn edges) p n

-- each node that s reaches along these edges has a trace
abbrev pub EachHasTrace : List Edge → ℕ → Type 0
EachHasTrace edges s = (n : ℕ) → Reaches (IsEdgeIn edges) s n → HasTrace (IsEdgeIn edges) s n
