use Rattle.std.proofs.Common.{◌≡◌, drop}
use Rattle.argot_plain.specs.Machine.{has_pair}
use Rattle.argot_points.proofs.system.has_pair.Given as goal

abbrev pub invariant-loop-n : goal.invariant-loop-n
invariant-loop-n l = has_pair l.a l.b (drop l.n l.pairs) ≡ has_pair l.a l.b l.pairs
