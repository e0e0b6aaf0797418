-- What is found of a program under one problem, as lists in order.
use Rattle.std.specs.Prelude.{◌≡◌, ◌↔◌, List}
use Rattle.argot_plain.specs.Code.{Code}
use Rattle.argot_plain.specs.Lists.{In}
use Rattle.argot_plain.specs.declared.problems.Problem.{Problem}
use Rattle.argot_facts.specs.Findings.{FlowBefore, EscapeBefore}
use Rattle.argot_facts.specs.Flows as flowing
use Rattle.argot_facts.specs.Graphs.{IsOrdered}
use Rattle.argot_facts.specs.declared.findings.EscapePair.{EscapePair}
use Rattle.argot_facts.specs.declared.findings.Flow.{Flow}

-- exactly the flows of the problem, in order, each with its number
pub record AreFlowsOf (p : Code) (problem : Problem) (found : List Flow) : Type 0 where
  pub ordered : IsOrdered FlowBefore found
  pub each : (f : Flow) → In f found ↔ (f.problem ≡ problem.number) × flowing.Flow p problem f.source f.sink f.arg

-- exactly its escapes, in order, whether or not the problem asks for them
pub record AreEscapesOf (p : Code) (problem : Problem) (found : List EscapePair) : Type 0 where
  pub ordered : IsOrdered EscapeBefore found
  pub each : (e : EscapePair) → In e found ↔ (e.problem ≡ problem.number) × flowing.EscapeOf p problem e.source e.site
