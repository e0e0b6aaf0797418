use Rattle.std.proofs.Common.{◌≡◌, length}
use Rattle.argot_names_blocks.specs.Listing.{AreGenericsUpTo}
use Rattle.argot_names_blocks.proofs.generics.generics_of.Given as goal

abbrev pub invariant-loop-k : goal.invariant-loop-k
invariant-loop-k l = record { long : length l.table.items ≡ l.count; each : AreGenericsUpTo l.nodes l.k l.table.items }
