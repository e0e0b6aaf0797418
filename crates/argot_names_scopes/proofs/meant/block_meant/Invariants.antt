use Rattle.argot_names_scopes.proofs.Seeking.{rank, Sought}
use Rattle.argot_names_scopes.proofs.meant.block_meant.Given as goal

abbrev pub invariant-loop-at : goal.invariant-loop-at
invariant-loop-at l = Sought l.names.bytes.now l.names.tokens.now l.names.bindings.brought.items l.names.news.items l.token l.name l.opens l.at l.best

abbrev pub decreases-loop-at : goal.decreases-loop-at
decreases-loop-at l = rank l.at
