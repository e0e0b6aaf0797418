use Rattle.argot_parse_reader.proofs.Exact.Unique.{spelled_read}
use Rattle.argot_parse_reader.proofs.laws.spelled_read.Goals as goal

pub returns : goal.returns
returns c = spelled_read
