use Rattle.std.proofs.Common.{◌≡◌, drop}
use Rattle.argot_io.specs.Told.{content}
use Rattle.argot_io.specs.Entries.{entries_of}
use Rattle.argot_io.proofs.entries.found.Given as goal

-- it wasn't among those passed
abbrev pub invariant-loop-entry : goal.invariant-loop-entry
invariant-loop-entry l = content l.path (entries_of (drop l.entry-index l.entries)) ≡ content l.path (entries_of l.entries)
