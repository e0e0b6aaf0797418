use Rattle.argot_names_subset_file.specs.Spots.{Adds}
use Rattle.argot_names_subset_file.specs.Files.{IsPart, IsAt}
use Rattle.argot_names_subset_file.proofs.Adding.{UpTo}
use Rattle.argot_names_subset_file.proofs.notes.note_nodes.Given as goal

abbrev pub invariant-loop-k : goal.invariant-loop-k
invariant-loop-k l = Adds (UpTo (λ j. IsAt l.view.file.now.tokens l.view.number (IsPart l.view j)) l.k) l.initial.spots.keys l.spots.keys
