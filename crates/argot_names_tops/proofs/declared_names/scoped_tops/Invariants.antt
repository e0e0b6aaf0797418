use Rattle.argot_names_tops.specs.Collecting.{AreCollected}
use Rattle.argot_names_tops.specs.TopNames.{GivesTop}
use Rattle.argot_names_tops.proofs.declared_names.scoped_tops.Given as goal

abbrev pub invariant-loop-k : goal.invariant-loop-k
invariant-loop-k l = AreCollected (GivesTop l.bytes l.tokens l.scope l.file) l.tops l.k l.out.items
