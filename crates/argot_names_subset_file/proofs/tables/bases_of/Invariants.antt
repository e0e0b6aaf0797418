use Rattle.argot_names_subset_file.proofs.Counting.{AreBasesBefore}
use Rattle.argot_names_subset_file.proofs.tables.bases_of.Given as goal

abbrev pub invariant-loop-file : goal.invariant-loop-file
invariant-loop-file l = AreBasesBefore l.trees l.file l.count l.bases.items
