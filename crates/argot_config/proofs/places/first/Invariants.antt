use Rattle.std.proofs.Common.{◌≡◌}
use Rattle.argot_config.specs.Looking.{three_in}
use Rattle.argot_config.proofs.Lowered.{NoneBefore}
use Rattle.argot_config.proofs.places.first.Given as goal

abbrev pub invariant-loop-k : goal.invariant-loop-k
invariant-loop-k l = (three_in l.look ≡ three_in l.fn.look) × NoneBefore (three_in l.fn.look) l.kind l.tags l.k
