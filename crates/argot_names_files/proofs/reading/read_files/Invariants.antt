use Rattle.argot_names_files.specs.Reading.{AreReadings}
use Rattle.argot_names_files.proofs.reading.read_files.Given as goal

abbrev pub invariant-loop-file : goal.invariant-loop-file
invariant-loop-file l = AreReadings l.sources l.file l.lexed.items l.trees.items
