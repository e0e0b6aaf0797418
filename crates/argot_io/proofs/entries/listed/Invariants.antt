use Rattle.std.proofs.Common.{◌≡◌, take}
use Rattle.argot_io.specs.Told.{listing}
use Rattle.argot_io.specs.Entries.{entries_of}
use Rattle.argot_io.proofs.entries.listed.Given as goal

abbrev pub invariant-loop-entry : goal.invariant-loop-entry
invariant-loop-entry l = l.texts.items ≡ listing l.dir (entries_of (take l.entry-index l.entries))
