use Rattle.argot_names_subset_file.proofs.Entering.{AreKeysBelow}
use Rattle.argot_names_subset_file.proofs.entries.entry_table.Given as goal

abbrev pub invariant-loop-k : goal.invariant-loop-k
invariant-loop-k l = AreKeysBelow l.entries l.k l.keys
