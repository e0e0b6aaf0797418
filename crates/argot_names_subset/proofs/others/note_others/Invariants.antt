use Rattle.argot_names_subset_file.specs.Spots.{Adds}
use Rattle.argot_names_subset_file.proofs.Adding.{UpTo}
use Rattle.argot_names_subset.proofs.Othering.{IsOtherNumbered}
use Rattle.argot_names_subset.proofs.others.note_others.Given as goal

abbrev pub invariant-loop-file : goal.invariant-loop-file
invariant-loop-file l = Adds (UpTo (IsOtherNumbered l.sources l.folders) l.file) l.initial.spots.keys l.spots.keys
