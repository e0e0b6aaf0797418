use Rattle.argot_points.proofs.moves.shift.Goals as goal

pub returns-in-Some-row-clause-closed : goal.returns-in-Some-row-clause-closed
returns-in-Some-row-clause-closed c = λ a n m e f. rw (c.in-Some.ensures.only n e, c.in-Some-row.ensures.only m f) (c.shift_row.ensures.closed a)
