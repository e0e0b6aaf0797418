use Rattle.std.proofs.Common.{not, sym, ap, ◌∙◌}
use Rattle.argot_links.proofs.Tables.{has-table, row_in, col_in, adds_table, ascending-table, same_shape, room-table}
use Rattle.argot_links.proofs.rows.Rows.add.Goals as goal

pub add-requires-clause-row : goal.add-requires-clause-row
add-requires-clause-row c = row_in _ _ c.self.view_is _ c.requires.row

pub add-requires-clause-column : goal.add-requires-clause-column
add-requires-clause-column c = col_in _ _ c.self.view_is _ c.requires.column

pub returns-clause-adds : goal.returns-clause-adds
returns-clause-adds c = rw (← c.self.view_is) (adds_table _ _ c.self.invariant c.add.ensures.within _ _ c.add.ensures.adds)

pub returns-clause-ascending : goal.returns-clause-ascending
returns-clause-ascending c = ascending-table _

pub returns-clause-shape : goal.returns-clause-shape
returns-clause-shape c = rw (← c.self.view_is) (same_shape _ _ c.add.ensures.size)

pub returns-clause-fresh : goal.returns-clause-fresh
returns-clause-fresh c = rw (← c.self.view_is) (c.add.ensures.fresh ∙ ap not (sym (has-table c.self.inside.bits c.self.invariant c.args.r c.args.c)))

pub returns-clause-room : goal.returns-clause-room
returns-clause-room c = λ t. rw (← c.self.view_is, room-table _ c.self.invariant, room-table _ c.add.ensures.within) (c.add.ensures.zeros t)
