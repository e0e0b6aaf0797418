use Rattle.std.proofs.Common.{◌≡◌, ◌++◌}
use Rattle.argot_links.specs.Members.{IsAscending}
use Rattle.argot_links.specs.Table.{row}
use Rattle.argot_points.proofs.reading.first_row.Given as goal

abbrev pub invariant-loop-g : goal.invariant-loop-g
invariant-loop-g l = record {
  rest : l.yielded ++ l.g-iterator ≡ row l.rows 0;
  same : l.found.items ≡ l.yielded;
  ascending : IsAscending (row l.rows 0);
}
