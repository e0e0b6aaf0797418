use Rattle.std.proofs.Common.{◌≡◌}
use Rattle.argot_config.specs.Looking.{three_in, three_of}
use Rattle.argot_config.proofs.Marked.{MarkedBelow}
use Rattle.argot_config.proofs.functions.mark.Given as goal

abbrev pub invariant-loop-g : goal.invariant-loop-g
invariant-loop-g l = MarkedBelow l.program l.matcher l.g l.fn.marks l.marks × (three_in l.look ≡ three_of l.matcher)
