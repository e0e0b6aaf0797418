use Rattle.argot_names_uses.specs.Bases.{AreBasesUpTo}
use Rattle.argot_names_uses.proofs.bases.node_bases.Given as goal

abbrev pub invariant-loop-file : goal.invariant-loop-file
invariant-loop-file l = AreBasesUpTo l.trees l.file l.bases.items l.count
