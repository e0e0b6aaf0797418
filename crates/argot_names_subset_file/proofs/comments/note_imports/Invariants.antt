use Rattle.argot_names_subset_file.specs.Spots.{Adds}
use Rattle.argot_names_subset_file.proofs.Adding.{UpTo}
use Rattle.argot_names_subset_file.proofs.Commenting.{ImportItem}
use Rattle.argot_names_subset_file.proofs.comments.note_imports.Given as goal

abbrev pub invariant-loop-k : goal.invariant-loop-k
invariant-loop-k l = Adds (UpTo (ImportItem l.view l.imports.items) l.k) l.initial.spots.keys l.spots.keys
