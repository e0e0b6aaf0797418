use Rattle.std.proofs.Common.{sym, ◌∙◌}
use Rattle.argot_links.proofs.Tables.{has-table, row_in, col_in}
use Rattle.argot_links.proofs.rows.Rows.has.Goals as goal

pub returns : goal.returns
returns c = rw (← c.self.view_is) (c.has.ensures ∙ sym (has-table c.self.inside.bits c.self.invariant c.args.r c.args.c))

pub has-requires-clause-row : goal.has-requires-clause-row
has-requires-clause-row c = row_in _ _ c.self.view_is _ c.requires.row

pub has-requires-clause-column : goal.has-requires-clause-column
has-requires-clause-column c = col_in _ _ c.self.view_is _ c.requires.column
