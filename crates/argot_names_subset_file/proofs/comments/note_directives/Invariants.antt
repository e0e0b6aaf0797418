use Rattle.argot_names_subset_file.specs.Spots.{Adds}
use Rattle.argot_names_subset_file.proofs.Adding.{UpTo}
use Rattle.argot_names_subset_file.proofs.Commenting.{DirectiveItem}
use Rattle.argot_names_subset_file.proofs.comments.note_directives.Given as goal

abbrev pub invariant-loop-k : goal.invariant-loop-k
invariant-loop-k l = Adds (UpTo (DirectiveItem l.bytes l.file l.directives) l.k) l.initial.spots.keys l.spots.keys
