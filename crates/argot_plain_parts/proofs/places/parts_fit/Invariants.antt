use Rattle.std.proofs.Common.{◌≡◌, drop}
use Rattle.argot_plain_parts.specs.Places.{parts_fit}
use Rattle.argot_plain_parts.proofs.places.parts_fit.Given as goal

abbrev pub invariant-loop-i : goal.invariant-loop-i
invariant-loop-i l = parts_fit l.f l.whole (drop l.i l.parts) ≡ parts_fit l.f l.whole l.parts
