use Rattle.argot_names_subset_file.specs.Tables.{AreTypesUpTo}
use Rattle.argot_names_subset_file.proofs.tables.push_types.Given as goal

abbrev pub invariant-loop-k : goal.invariant-loop-k
invariant-loop-k l = AreTypesUpTo l.nodes l.k l.initial.types.items l.types.items
