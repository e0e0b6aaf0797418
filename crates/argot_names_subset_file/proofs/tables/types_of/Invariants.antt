use Rattle.argot_names_subset_file.specs.Tables.{AreTypesBefore}
use Rattle.argot_names_subset_file.proofs.tables.types_of.Given as goal

abbrev pub invariant-loop-file : goal.invariant-loop-file
invariant-loop-file l = AreTypesBefore l.trees l.file l.types.items
