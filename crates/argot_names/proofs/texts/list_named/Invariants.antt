use Rattle.argot_names.proofs.Ordered.{AreNamedBelow}
use Rattle.argot_names.proofs.texts.list_named.Given as goal

abbrev pub invariant-loop-k : goal.invariant-loop-k
invariant-loop-k l = AreNamedBelow l.survey l.k l.paths
