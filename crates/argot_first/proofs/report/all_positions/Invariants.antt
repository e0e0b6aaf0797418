use Rattle.std.proofs.Common.{◌≡◌, ◌≤◌, ◌+◌}
use Rattle.argot_text.specs.Lines.{line_of, column_of}
use Rattle.argot_first.specs.Report.{IsTable}
use Rattle.argot_first.proofs.report.all_positions.Given as goal

abbrev pub invariant-loop-byte : goal.invariant-loop-byte
invariant-loop-byte l = record {
  line : l.line ≡ line_of l.bytes l.byte-index;
  column : l.col ≡ column_of l.bytes l.byte-index;
  few_lines : l.line ≤ l.byte-index + 1;
  few_columns : l.col ≤ l.byte-index + 1;
  table : IsTable l.bytes l.byte-index l.table.items;
}
