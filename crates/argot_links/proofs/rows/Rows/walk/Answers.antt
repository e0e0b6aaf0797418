use Rattle.argot_links.proofs.Tables.{row_columns, ascending-table}
use Rattle.argot_links.proofs.rows.Rows.walk.Goals as goal

pub returns-clause-all : goal.returns-clause-all
returns-clause-all c = row_columns _ _ c.self.view_is c.self.invariant c.args.r c.requires

pub returns-clause-ascending : goal.returns-clause-ascending
returns-clause-ascending c = rw (← c.self.view_is) (ascending-table c.self.inside.bits c.args.r)
