use Rattle.argot_facts.proofs.Listed.{in_of_get}
use Rattle.argot_facts.proofs.Seconds.{runs_are}
use Rattle.argot_facts.proofs.pointing.by_place.Goals as goal

pub of-requires-clause-headed : goal.of-requires-clause-headed
of-requires-clause-headed c = λ k x e. c.requires x.0 x.1 (in_of_get c.args.targets.now k x e)

pub returns : goal.returns
returns c = runs_are c.of.result c.args.places c.args.targets.now (λ k x e. c.requires x.0 x.1 (in_of_get c.args.targets.now k x e)) c.of.ensures.count c.of.ensures.runs
