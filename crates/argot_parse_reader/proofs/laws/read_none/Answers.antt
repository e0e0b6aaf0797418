use Rattle.argot_parse_reader.proofs.Far.Alone.{read_none}
use Rattle.argot_parse_reader.proofs.laws.read_none.Goals as goal

pub returns : goal.returns
returns c = read_none
