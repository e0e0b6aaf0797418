use Rattle.argot_facts.proofs.Marked.{nodes_are}
use Rattle.argot_facts.proofs.laws.nodes_are_listed.Goals as goal

pub returns : goal.returns
returns c = nodes_are
