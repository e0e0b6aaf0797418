use Rattle.std.proofs.Common.{◌≡◌, length, map, take}
use Rattle.argot_config.proofs.places.counts.Given as goal

abbrev pub invariant-loop-i : goal.invariant-loop-i
invariant-loop-i l = l.made.items ≡ map (λ x. length x.tags) (take l.i l.program.instrs)
