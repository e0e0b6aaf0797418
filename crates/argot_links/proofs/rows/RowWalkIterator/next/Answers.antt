use Rattle.std.proofs.Common.{refl, rules}
use Rattle.argot_links.specs.Table.{has}
use Rattle.argot_links.proofs.Ascending.{walk_next, walk_shorter, columns_none}
use Rattle.argot_links.proofs.rows.RowWalkIterator.next.Goals as goal

pub returns-in-Some-clause-steps : goal.returns-in-Some-clause-steps
returns-in-Some-clause-steps c = let w = c.self.inside in
    let found = c.in-Some.ensures.found in
    rw (← c.self.view_is) (walk_next (has w.table.now w.row) w.at w.table.now.cols c.in-Some.c found.0 found.1 found.2 c.in-Some.ensures.first)

pub returns-in-Some-clause-goes : goal.returns-in-Some-clause-goes
returns-in-Some-clause-goes c = let w = c.self.inside in
    let found = c.in-Some.ensures.found in
    let shorter = walk_shorter (has w.table.now w.row) w.at w.table.now.cols c.in-Some.c found.0 found.1 found.2 c.in-Some.ensures.first in
    rw (← c.self.view_is) (search (rules, shorter))

pub returns-in-None-clause-steps : goal.returns-in-None-clause-steps
returns-in-None-clause-steps c = let w = c.self.inside in
    let none = columns_none (has w.table.now w.row) w.at _ (c.in-None.ensures.none refl) in
    rw (← c.self.view_is) (none, none)
