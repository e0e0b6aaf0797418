use Rattle.std.proofs.Common.{◌≡◌, ◌++◌}
use Rattle.argot_escape.specs.Flooding.{Finds, IsReady, AreAt}
use Rattle.argot_escape.proofs.found.reach_row.Given as goal

abbrev pub invariant-loop-y : goal.invariant-loop-y
invariant-loop-y l = record {
  rest : l.yielded ++ l.y-iterator ≡ l.initial.y-iterator;
  ready : IsReady l.points.locations l.found;
  finds : Finds (AreAt l.points.locations l.yielded) l.initial.found l.found;
}
