use Rattle.std.proofs.Common.{◌∙◌}
use Rattle.argot_links.proofs.Tables.{has-table, same_shape, row_empty}
use Rattle.argot_links.proofs.rows.Rows.clear.Goals as goal

pub returns-clause-shape : goal.returns-clause-shape
returns-clause-shape c = rw (← c.self.view_is) (same_shape _ _ c.clear.ensures.size)

pub returns-clause-empty : goal.returns-clause-empty
returns-clause-empty c = λ a b. has-table _ c.clear.ensures.within a b ∙ c.clear.ensures.empty a b

pub returns-clause-none : goal.returns-clause-none
returns-clause-none c = row_empty _ c.clear.ensures.empty
