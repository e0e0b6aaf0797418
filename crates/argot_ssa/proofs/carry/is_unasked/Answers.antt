use Rattle.std.proofs.Common.{sym, ◌∙◌}
use Rattle.argot_ssa.proofs.Walks.{walked_none}
use Rattle.argot_ssa.proofs.carry.is_unasked.Goals as goal

pub returns-in-None : goal.returns-in-None
returns-in-None c = λ t. walked_none c.args.asks.now.lists c.args.r (sym c.walk.ensures ∙ c.in-None.ensures.steps.0)
