use Rattle.std.proofs.Common.{◌∙◌}
use Rattle.argot_links.proofs.Tables.{has-table, length-table, cols-table, row_empty}
use Rattle.argot_links.proofs.rows.Rows.new.Goals as goal

pub returns-clause-rows : goal.returns-clause-rows
returns-clause-rows c = length-table _ ∙ c.in_ok-bits.ensures.rows

pub returns-clause-cols : goal.returns-clause-cols
returns-clause-cols c = cols-table _ ∙ c.in_ok-bits.ensures.cols

pub returns-clause-empty : goal.returns-clause-empty
returns-clause-empty c = λ a b. has-table _ c.in_ok-bits.ensures.within a b ∙ c.in_ok-bits.ensures.empty a b

pub returns-clause-none : goal.returns-clause-none
returns-clause-none c = row_empty _ c.in_ok-bits.ensures.empty
