use Rattle.std.proofs.Common.{rules}
use Rattle.argot_names_scopes.proofs.FirstNames.{no_items}
use Rattle.argot_names_scopes.proofs.firsts.firsts_of.Goals as goal

pub loop-k-init : goal.loop-k-init
loop-k-init c = λ o t. no_items c.args.bytes.now c.args.tokens.now c.args.brought.now o t _ (search rules)
