use Rattle.argot_points.proofs.targets.hand_all.Goals as goal

pub hand_row-requires-clause-rule : goal.hand_row-requires-clause-rule
hand_row-requires-clause-rule c = λ y. c.requires.rule c.in-Some.row y c.in-Some.ensures.found

pub returns-in-Some-clause-closed : goal.returns-in-Some-clause-closed
returns-in-Some-clause-closed c = λ a row y e. rw (c.in-Some.ensures.only row e) (c.hand_row.ensures.closed a y)
