use Rattle.std.proofs.Common.{arith}
use Rattle.argot_control.proofs.Led.{below_none, below_more}
use Rattle.argot_control.proofs.tests.a_row_has_what_steps_lead_to.Goals as goal

pub rows_of-requires : goal.rows_of-requires
rows_of-requires g c = below_more 5 2 1 _ (omega arith) (omega arith) (below_more 5 0 2 _ (omega arith) (omega arith) (below_more 5 1 3 _ (omega arith) (omega arith) (below_more 5 3 1 _ (omega arith) (omega arith) (below_none 5))))
