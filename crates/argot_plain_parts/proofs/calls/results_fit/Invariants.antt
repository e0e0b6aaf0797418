use Rattle.std.proofs.Common.{◌≡◌, drop}
use Rattle.argot_plain_parts.specs.Places.{results_fit}
use Rattle.argot_plain_parts.proofs.calls.results_fit.Given as goal

abbrev pub invariant-loop-i : goal.invariant-loop-i
invariant-loop-i l = results_fit l.f l.target (drop l.i l.to) (drop l.i l.from) ≡ results_fit l.f l.target l.to l.from
