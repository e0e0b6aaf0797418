use Rattle.argot_points.proofs.moves.load.Goals as goal

pub load_row-requires-clause-rule : goal.load_row-requires-clause-rule
load_row-requires-clause-rule c = c.requires.rule c.in-Some.n c.in-Some-row.m c.in-Some.ensures.found c.in-Some-row.ensures.found

pub returns-in-Some-row-clause-closed : goal.returns-in-Some-row-clause-closed
returns-in-Some-row-clause-closed c = λ a n m e f. rw (c.in-Some.ensures.only n e, c.in-Some-row.ensures.only m f) (c.load_row.ensures.closed a)
