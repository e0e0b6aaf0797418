use Rattle.std.proofs.Common.{◌≡◌, length}
use Rattle.argot_plain_show.proofs.rows.join_all.Given as goal

abbrev pub invariant-loop-r : goal.invariant-loop-r
invariant-loop-r l = record {
  rows : length l.table.rows ≡ l.rows;
  cols : l.table.cols ≡ l.fn.table.cols;
}
