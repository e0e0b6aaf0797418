use Rattle.std.proofs.Common.{List, length}
use Rattle.argot_names_tops.specs.declared.named.Named.{Named}
use Rattle.argot_names_tops.specs.Entries.{AreEntries}
use Rattle.argot_names_tops.specs.First.{NamesFirst}
use Rattle.argot_names_tops.specs.Behind.{IsBehindBelow}
use Rattle.argot_names_tops.proofs.behind.first_behind.Given as goal

abbrev pub invariant-loop-k : goal.invariant-loop-k
invariant-loop-k l = (others : List Named) → AreEntries others (length others) l.entries → NamesFirst (IsBehindBelow l.items others l.k) l.first
