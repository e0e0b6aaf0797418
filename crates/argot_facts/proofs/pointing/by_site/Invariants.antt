use Rattle.argot_facts.proofs.Seconds.{IsPaired}
use Rattle.argot_facts.proofs.pointing.by_site.Given as goal

abbrev pub invariant-loop-y : goal.invariant-loop-y
invariant-loop-y l = IsPaired l.y l.locations l.pairs.items
