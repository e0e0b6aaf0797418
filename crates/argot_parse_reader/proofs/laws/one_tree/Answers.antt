use Rattle.argot_parse_reader.proofs.Exact.Unique.{one_tree}
use Rattle.argot_parse_reader.proofs.laws.one_tree.Goals as goal

pub returns : goal.returns
returns c = one_tree
