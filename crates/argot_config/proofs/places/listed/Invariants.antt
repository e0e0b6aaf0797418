use Rattle.argot_config.specs.Marking.{Gathers, IsListed}
use Rattle.argot_config.proofs.places.listed.Given as goal

abbrev pub invariant-loop-i : goal.invariant-loop-i
invariant-loop-i l = Gathers (λ x. x.0) (IsListed l.program l.firsts) l.i l.found.items
