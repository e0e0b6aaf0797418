use Rattle.argot_parse_reader.proofs.Far.Alone.{read_longest}
use Rattle.argot_parse_reader.proofs.laws.read_longest.Goals as goal

pub returns : goal.returns
returns c = read_longest
