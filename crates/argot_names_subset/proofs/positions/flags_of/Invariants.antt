use Rattle.std.proofs.Common.{◌≡◌, take}
use Rattle.std.specs.Prelude.{map}
use Rattle.argot_names_subset.specs.Positions.{flagged, IsCursor}
use Rattle.argot_names_subset.proofs.positions.flags_of.Given as goal

abbrev pub invariant-loop-k : goal.invariant-loop-k
invariant-loop-k l = record {
  flags : l.flags.items ≡ map (flagged l.sources) (take l.k l.spots);
  cursor : IsCursor l.sources l.cursor;
}
