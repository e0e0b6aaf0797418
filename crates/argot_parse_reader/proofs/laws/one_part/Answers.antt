use Rattle.argot_parse_reader.proofs.Exact.Parts.{one_part}
use Rattle.argot_parse_reader.proofs.laws.one_part.Goals as goal

pub returns : goal.returns
returns c = one_part
