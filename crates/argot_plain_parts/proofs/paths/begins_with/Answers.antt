use Rattle.std.proofs.Common.{sym}
use Rattle.argot_plain_parts.proofs.Compared.{longer}
use Rattle.argot_plain_parts.proofs.paths.begins_with.Goals as goal

pub returns-then-a-b : goal.returns-then-a-b
returns-then-a-b c = sym (longer c.args.a.now c.args.b.now c.if-a-b.true)
