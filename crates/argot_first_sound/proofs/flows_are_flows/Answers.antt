use Rattle.argot_first_sound.proofs.Conclusion.{whole-flows}
use Rattle.argot_first_sound.proofs.Flowing.{flows}
use Rattle.argot_first_sound.proofs.flows_are_flows.Goals as goal

pub returns-clause-whole : goal.returns-clause-whole
returns-clause-whole c = flows

pub returns-clause-own : goal.returns-clause-own
returns-clause-own c = whole-flows
