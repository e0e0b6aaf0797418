use Rattle.std.proofs.Common.{sym}
use Rattle.argot_plain_parts.proofs.Compared.{two_lengths}
use Rattle.argot_plain_parts.proofs.paths.same_path.Goals as goal

pub returns-then-a-b : goal.returns-then-a-b
returns-then-a-b c = sym (two_lengths c.args.a.now c.args.b.now c.if-a-b.true)
