use Rattle.std.proofs.Common.{take}
use Rattle.argot_config.specs.Marking.{AreFirsts}
use Rattle.argot_config.proofs.places.places.Given as goal

abbrev pub invariant-loop-matcher : goal.invariant-loop-matcher
invariant-loop-matcher l = AreFirsts l.program (take l.matcher-index l.matchers) l.firsts.items
