use Rattle.std.proofs.Common.{rules}
use Rattle.argot_names_subset_file.proofs.Gathering.{ordered_items}
use Rattle.argot_names_subset_file.proofs.files.listed.Goals as goal

pub returns-clause-ordered : goal.returns-clause-ordered
returns-clause-ordered c = ordered_items _ _ c.iter.ensures.ordered (search rules)
