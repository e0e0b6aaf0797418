use Rattle.std.proofs.Common.{◌↔◌, length}
use Rattle.argot_io.specs.Told.{HasDistinctPaths}
use Rattle.argot_io.specs.Entries.{entries_of}
use Rattle.argot_io.proofs.entries.are_distinct.Given as goal

-- those passed don't stand again behind themselves, so the rest decides
abbrev pub invariant-loop-rest : goal.invariant-loop-rest
invariant-loop-rest l = HasDistinctPaths (entries_of l.rest) ↔ HasDistinctPaths (entries_of l.fn.entries)

abbrev pub decreases-loop-rest : goal.decreases-loop-rest
decreases-loop-rest l = length l.rest
