use Rattle.std.proofs.Common.{◌≡◌, drop}
use Rattle.argot_plain_parts.specs.Places.{are_inside}
use Rattle.argot_plain_parts.proofs.places.are_inside.Given as goal

abbrev pub invariant-loop-i : goal.invariant-loop-i
invariant-loop-i l = are_inside l.f (drop l.i l.places) ≡ are_inside l.f l.places
