use Rattle.argot_names_files.proofs.Parts.{ArePut}
use Rattle.argot_names_files.proofs.folder.with_library.Given as goal

abbrev pub invariant-loop-k : goal.invariant-loop-k
invariant-loop-k l = ArePut l.fn.sources.paths l.fn.sources.contents l.fn.readings.lexed.items l.fn.readings.trees.items l.k l.paths l.contents.items l.lexed.items l.trees.items
