use Rattle.std.proofs.Common.{sym, arith}
use Rattle.std.proofs.lemmas.Grind.{common_steps}
use Rattle.argot_plain_parts.proofs.Compared.{joined_is, joined_short}
use Rattle.argot_plain_parts.proofs.paths.is_joined.Goals as goal

pub returns-then-whole-front : goal.returns-then-whole-front
returns-then-whole-front c = sym (joined_short c.args.whole.now c.args.front.now c.args.rest.now c.if-whole-front.true)

pub returns-then-same_path : goal.returns-then-same_path
returns-then-same_path c = grind (arith, common_steps, joined_is c.args.whole.now c.args.front.now c.args.rest.now (omega arith))

pub returns-else-same_path : goal.returns-else-same_path
returns-else-same_path c = grind (arith, common_steps, joined_is c.args.whole.now c.args.front.now c.args.rest.now (omega arith))
