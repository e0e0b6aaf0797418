use Rattle.std.proofs.Common.{◌≡◌, ◌≤◌, ◌+◌}
use Rattle.argot_text.specs.Lines.{line_of, column_of}
use Rattle.argot_names_subset.proofs.positions.advance.Given as goal

abbrev pub invariant-loop-k : goal.invariant-loop-k
invariant-loop-k l = record {
  line : l.line ≡ line_of l.bytes l.k;
  column : l.col ≡ column_of l.bytes l.k;
  few_lines : l.line ≤ l.k + 1;
  few_columns : l.col ≤ l.k + 1;
}
