use Rattle.argot_facts.proofs.Located.{locations_are}
use Rattle.argot_facts.proofs.laws.locations_are_listed.Goals as goal

pub returns : goal.returns
returns c = locations_are
