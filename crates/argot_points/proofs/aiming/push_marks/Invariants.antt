use Rattle.std.proofs.Common.{◌≡◌, ◌++◌, map}
use Rattle.argot_links.specs.Members.{IsAscending}
use Rattle.argot_links.specs.Table.{row}
use Rattle.argot_points.proofs.aiming.push_marks.Given as goal

abbrev pub invariant-loop-g : goal.invariant-loop-g
invariant-loop-g l = record {
  rest : l.yielded ++ l.g-iterator ≡ row l.marks 0;
  pairs : l.found.items ≡ l.fn.found.items ++ map (λ g. (l.place, g)) l.yielded;
  ascending : IsAscending (row l.marks 0);
}
