use Rattle.argot_parse_reader.proofs.Sound.{reads_spelled}
use Rattle.argot_parse_reader.proofs.laws.reads_spelled.Goals as goal

pub returns : goal.returns
returns c = reads_spelled
