use Rattle.std.proofs.Common.{◌≡◌, drop}
use Rattle.argot_plain_parts.specs.Sites.{from_place}
use Rattle.argot_plain_parts.proofs.owners.from_place.Given as goal

abbrev pub invariant-loop-i : goal.invariant-loop-i
invariant-loop-i l = from_place l.place (drop l.i l.functions) ≡ from_place l.place l.functions
