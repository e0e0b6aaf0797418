use Rattle.std.proofs.Common.{rules}
use Rattle.argot_names_scopes.proofs.Linking.{begin_links}
use Rattle.argot_names_scopes.proofs.links.links_of.Goals as goal

pub loop-k-init : goal.loop-k-init
loop-k-init c = begin_links c.args.bytes.now c.args.tokens.now c.args.brought.now c.args.news.now _ _ (λ o t. search rules) (search rules)
