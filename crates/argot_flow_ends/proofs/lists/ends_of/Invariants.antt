use Rattle.std.proofs.Common.{◌≡◌, ◌↔◌, ◌<◌, Some}
use Rattle.std.specs.List.{slice_get}
use Rattle.argot_plain.specs.Lists.{In}
use Rattle.argot_facts.specs.declared.nodes.Node.{Node}
use Rattle.argot_flow_ends.specs.Ends.{IsArgumentNode}
use Rattle.argot_flow_ends.specs.declared.lists.End.{End}
use Rattle.argot_flow_ends.proofs.lists.ends_of.Given as goal

abbrev pub invariant-loop-n : goal.invariant-loop-n
invariant-loop-n l = (e : End) → In e l.ends.items ↔ ((a : Node) × (slice_get l.nodes e.node ≡ Some a) × IsArgumentNode l.asked.program.now l.asked.problem.now a e.arg × (e.node < l.n))
