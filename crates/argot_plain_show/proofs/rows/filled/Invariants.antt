use Rattle.std.proofs.Common.{◌≡◌, length}
use Rattle.argot_plain_show.proofs.rows.filled.Given as goal

abbrev pub invariant-loop-c : goal.invariant-loop-c
invariant-loop-c l = record {
  rows : length l.table.rows ≡ l.rows;
  cols : l.table.cols ≡ l.cols;
}
