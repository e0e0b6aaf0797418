use Rattle.argot_files.specs.Parents.{AreParentsUpTo}
use Rattle.argot_files.proofs.parents.parents_of.Given as goal

abbrev pub invariant-loop-k : goal.invariant-loop-k
invariant-loop-k l = AreParentsUpTo l.nodes l.k l.k l.parents.items
