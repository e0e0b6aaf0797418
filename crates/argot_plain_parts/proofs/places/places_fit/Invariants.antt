use Rattle.std.proofs.Common.{◌≡◌, drop, ◌+◌}
use Rattle.argot_plain_parts.specs.Places.{places_fit}
use Rattle.argot_plain_parts.proofs.places.places_fit.Given as goal

abbrev pub invariant-loop-k : goal.invariant-loop-k
invariant-loop-k l = places_fit l.functions l.instrs l.f (l.first + l.k) (drop l.k l.body) ≡ places_fit l.functions l.instrs l.f l.first l.body
