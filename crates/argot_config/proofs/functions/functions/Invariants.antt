use Rattle.std.proofs.Common.{take}
use Rattle.argot_config.specs.Marking.{AreMarks}
use Rattle.argot_config.proofs.functions.functions.Given as goal

abbrev pub invariant-loop-matcher : goal.invariant-loop-matcher
invariant-loop-matcher l = AreMarks l.program (take l.matcher-index l.matchers) l.marks.items
