use Rattle.std.proofs.Common.{sym}
use Rattle.argot_plain_parts.proofs.Compared.{two_sizes}
use Rattle.argot_plain_parts.proofs.leaves.same_elements.Goals as goal

pub returns-then-a-b : goal.returns-then-a-b
returns-then-a-b c = sym (two_sizes c.args.a.now c.args.b.now c.if-a-b.true)
