use Rattle.argot_io.proofs.Prefixes.{stripped}
use Rattle.argot_io.proofs.below.after.Goals as goal

pub returns : goal.returns
returns c = stripped c.args.prefix.now c.args.path.now c.strip_prefix.result c.strip_prefix.ensures.cases
