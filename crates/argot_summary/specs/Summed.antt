-- Why there are no summaries, and facts before they are put in order.
use Rattle.std.specs.Prelude.{◌↔◌, ℕ, List}
use Rattle.argot_plain.specs.Lists.{In}
use Rattle.argot_facts.specs.Reached.{IsEdgeIn}
use Rattle.argot_facts.specs.Summaries.{HasRank}
use Rattle.argot_facts.specs.Summed.{same, AreApart, HasManyFacts}
use Rattle.argot_facts.specs.declared.graphs.Edge.{Edge}
use Rattle.argot_facts.specs.declared.summaries.Same.{Same}
use Rattle.argot_summary.specs.declared.faults.SummaryFault.{SummaryFault}
use Rattle.argot_summary.specs.declared.faults.SummaryFault.TheVariants.{Pairs, Memory}

-- exactly the facts along these edges with their ranks, in any order
pub record AreFacts (edges : List Edge) (facts : List Same) : Type 0 where
  pub each : (p n r : ℕ) → In (same p n r) facts ↔ HasRank (IsEdgeIn edges) p n r
  pub apart : AreApart facts

-- the fault has its cause
abbrev pub HasMany : List Edge → SummaryFault → Type 0
HasMany edges Pairs = HasManyFacts edges
HasMany edges Memory = Unit {0}
