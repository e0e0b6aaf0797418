use Rattle.argot_points.proofs.moves.store.Goals as goal

pub store_row-requires-clause-rule : goal.store_row-requires-clause-rule
store_row-requires-clause-rule c = c.requires.rule c.in-Some.n c.in-Some-row.m c.in-Some.ensures.found c.in-Some-row.ensures.found
