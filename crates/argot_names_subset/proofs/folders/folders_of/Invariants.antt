use Rattle.argot_names_subset.proofs.Foldering.{AreFoldersBelow}
use Rattle.argot_names_subset.proofs.folders.folders_of.Given as goal

abbrev pub invariant-loop-k : goal.invariant-loop-k
invariant-loop-k l = AreFoldersBelow l.sources l.packages l.k l.folders
