use Rattle.argot_files.specs.Reading.{files_in}
use Rattle.argot_names_imports.proofs.AllImports.{AreImportsBelow}
use Rattle.argot_names_imports.proofs.all_written.all_imports.Given as goal

abbrev pub invariant-loop-file : goal.invariant-loop-file
invariant-loop-file l = AreImportsBelow (files_in l.files) l.file l.all.items
