-- The summary facts of a list of edges, as a list with their ranks, and when there are more than the limit.
use Rattle.std.specs.Prelude.{◌≡◌, ◌↔◌, ℕ, ◌<◌, List, Some, length, slice_get}
use Rattle.argot_plain.specs.Lists.{In}
use Rattle.argot_facts.specs.Graphs.{IsOrdered}
use Rattle.argot_facts.specs.Reached.{IsEdgeIn}
use Rattle.argot_facts.specs.Summaries.{IsSame, HasRank}
use Rattle.argot_facts.specs.declared.graphs.Edge.{Edge}
use Rattle.argot_facts.specs.declared.summaries.Same.{Same}

abbrev pub same : ℕ → ℕ → ℕ → Same
same p n r = record { from = p; to = n; rank = r }

-- facts by the parameter's node, then by the node that it reaches
pub data SameBefore (a b : Same) : Type 0 where
  by_from : a.from < b.from → SameBefore a b
  by_to : a.from ≡ b.from → a.to < b.to → SameBefore a b

-- exactly the facts along these edges, in order, each with its rank
pub record AreSummaries (edges : List Edge) (facts : List Same) : Type 0 where
  pub ordered : IsOrdered SameBefore facts
  pub each : (p n r : ℕ) → In (same p n r) facts ↔ HasRank (IsEdgeIn edges) p n r

-- no two facts have both ends in common
abbrev pub AreApart : List Same → Type 0
AreApart facts = (i j : ℕ) (a b : Same) → slice_get facts i ≡ Some a → slice_get facts j ≡ Some b
    → a.from ≡ b.from → a.to ≡ b.to → i ≡ j

-- there are more facts than the limit, which these show
pub record HasManyFacts (edges : List Edge) : Type 0 where
  pub facts : List Same
  pub apart : AreApart facts
  pub each : (i : ℕ) (f : Same) → slice_get facts i ≡ Some f → IsSame (IsEdgeIn edges) f.from f.to
  pub many : 16777216 < length facts
