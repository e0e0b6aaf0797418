use Rattle.argot_files.specs.Reading.{files_in}
use Rattle.argot_names_tops.specs.Tops.{AreFilesBelow}
use Rattle.argot_names_tops.proofs.files.files_of.Given as goal

abbrev pub invariant-loop-file : goal.invariant-loop-file
invariant-loop-file l = AreFilesBelow (files_in l.files) l.reached l.file l.names.items
