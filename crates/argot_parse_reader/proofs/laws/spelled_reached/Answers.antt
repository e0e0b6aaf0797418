use Rattle.argot_parse_reader.proofs.Far.Alone.{spelled_reached}
use Rattle.argot_parse_reader.proofs.laws.spelled_reached.Goals as goal

pub returns : goal.returns
returns c = spelled_reached
