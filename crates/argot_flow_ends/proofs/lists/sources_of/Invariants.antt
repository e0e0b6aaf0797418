use Rattle.std.proofs.Common.{◌≡◌, ◌↔◌, ℕ, ◌<◌, Some}
use Rattle.std.specs.List.{slice_get}
use Rattle.argot_plain.specs.Lists.{In}
use Rattle.argot_facts.specs.declared.nodes.Node.{Node}
use Rattle.argot_flow_ends.specs.Ends.{IsSourceNode}
use Rattle.argot_flow_ends.proofs.lists.sources_of.Given as goal

abbrev pub invariant-loop-n : goal.invariant-loop-n
invariant-loop-n l = (m : ℕ) → In m l.sources.items ↔ ((a : Node) × (slice_get l.nodes m ≡ Some a) × IsSourceNode l.asked.program.now l.asked.problem.now a × (m < l.n))
