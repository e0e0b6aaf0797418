use Rattle.argot_links.proofs.Chaining.{chains_empty}
use Rattle.argot_links.proofs.chains.Chains.new.Goals as goal

pub returns-clause-lists : goal.returns-clause-lists
returns-clause-lists c = rw (c.in_ok-heads.ensures.items_if_clones_equal (λ y e. e)) (chains_empty _ c.args.heads)
