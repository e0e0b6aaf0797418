use Rattle.argot_names_subset_file.proofs.Standing.{AreSoFar}
use Rattle.argot_names_subset_file.proofs.standings.standings_of.Given as goal

abbrev pub invariant-loop-k : goal.invariant-loop-k
invariant-loop-k l = AreSoFar l.uses l.decls l.types l.count l.k l.named.items l.typed.items
