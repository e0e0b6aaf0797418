use Rattle.argot_names_tops.specs.Entries.{AreEntries}
use Rattle.argot_names_tops.proofs.entries.entries_of.Given as goal

abbrev pub invariant-loop-k : goal.invariant-loop-k
invariant-loop-k l = AreEntries l.items l.k l.entries
