use Rattle.argot_links.proofs.Ascending.{ascending_known}
use Rattle.argot_links.proofs.laws.ascending_lists_are_known.Goals as goal

pub returns : goal.returns
returns c = ascending_known
