use Rattle.std.proofs.Common.{◌≡◌}
use Rattle.argot_config.specs.Looking.{three_in, three_of}
use Rattle.argot_config.proofs.Lowered.{LoweredBelow}
use Rattle.argot_config.proofs.places.lower.Given as goal

abbrev pub invariant-loop-i : goal.invariant-loop-i
invariant-loop-i l = LoweredBelow l.program l.matcher l.i l.fn.firsts l.firsts × (three_in l.look ≡ three_of l.matcher)
