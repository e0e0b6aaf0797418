use Rattle.std.proofs.Common.{arith}
use Rattle.argot_names_imports.proofs.Options.{ok_map}
use Rattle.argot_names_imports.proofs.survey.packages_from.Goals as goal

pub reach_from-requires-clause-small : goal.reach_from-requires-clause-small
reach_from-requires-clause-small c = omega (arith, c.in_ok-graph.ensures.count, c.in_ok-graph.ensures.small)

pub reach_from-requires-clause-start : goal.reach_from-requires-clause-start
reach_from-requires-clause-start c = omega (arith, c.in_ok-graph.ensures.count, c.requires.start)

pub reach_from-requires-clause-below : goal.reach_from-requires-clause-below
reach_from-requires-clause-below c = λ l t edge.
    let s = (c.in_ok-graph.ensures.edges l t).0 edge in
    omega (arith, c.requires.targets s.0 s.1.found t s.1.is_found s.1.target, c.in_ok-graph.ensures.count)

pub returns-clause-all : goal.returns-clause-all
returns-clause-all c = ok_map c.reach_from.result _ _ (λ r all. record { lists = c.in_ok-graph.graph.lists; steps = c.in_ok-graph.ensures.edges; all = all }) c.reach_from.ensures.all
