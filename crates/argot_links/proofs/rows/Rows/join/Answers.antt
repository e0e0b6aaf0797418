use Rattle.argot_links.proofs.Tables.{row_in, joins_table, ascending-table, same_shape, room-table}
use Rattle.argot_links.proofs.rows.Rows.join.Goals as goal

pub join-requires-clause-source : goal.join-requires-clause-source
join-requires-clause-source c = row_in _ _ c.self.view_is _ c.requires.source

pub join-requires-clause-target : goal.join-requires-clause-target
join-requires-clause-target c = row_in _ _ c.self.view_is _ c.requires.target

pub returns-clause-joins : goal.returns-clause-joins
returns-clause-joins c = rw (← c.self.view_is) (joins_table _ _ c.self.invariant c.join.ensures.within _ _ c.join.ensures.joins)

pub returns-clause-ascending : goal.returns-clause-ascending
returns-clause-ascending c = ascending-table _

pub returns-clause-shape : goal.returns-clause-shape
returns-clause-shape c = rw (← c.self.view_is) (same_shape _ _ c.join.ensures.size)

pub returns-clause-room : goal.returns-clause-room
returns-clause-room c = λ t. rw (← c.self.view_is, room-table _ c.self.invariant, room-table _ c.join.ensures.within) (c.join.ensures.zeros t)
