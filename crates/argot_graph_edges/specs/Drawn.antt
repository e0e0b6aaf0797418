-- The edges for which rules stand, by number.
use Rattle.std.specs.Prelude.{ℕ, List}
use Rattle.argot_plain.specs.Code.{Code}
use Rattle.argot_plain.specs.Lists.{In}
use Rattle.argot_plain.specs.declared.problems.Problem.{Problem}
use Rattle.argot_facts.specs.Pointing.{Pointing}
use Rattle.argot_facts.specs.declared.graphs.Edge.{Edge}
use Rattle.argot_points_rules.specs.declared.rules.Owned.{Owned}
use Rattle.argot_points_rules.specs.declared.rules.Rule.{Rule}
use Rattle.argot_points_rules.specs.declared.rules.Rule.TheVariants.{Choose}
use Rattle.argot_graph_edges.specs.Rows.{IsNumberedAs, Choosing, RuleRow}

-- of the value by which the callee is found
abbrev pub Chosen : Code → Pointing → Problem → ℕ → ℕ → Edge → Type 0
Chosen p x pr i k = IsNumberedAs x.nodes (Choosing p x pr i k)

-- of a rule
abbrev pub RuleDrawn : Code → Pointing → Problem → ℕ → Rule → Edge → Type 0
RuleDrawn p x pr h rule = IsNumberedAs x.nodes (RuleRow p x pr h rule)

-- and of some of these
abbrev pub RulesDrawn : Code → Pointing → Problem → List Owned → Edge → Type 0
RulesDrawn p x pr rules e = (o : Owned) × In o rules × RuleDrawn p x pr o.function o.rule e
