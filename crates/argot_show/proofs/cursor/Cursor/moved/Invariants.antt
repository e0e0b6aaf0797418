use Rattle.std.proofs.Common.{◌-◌, ◌≤◌}
use Rattle.argot_show.specs.Cursors.{IsCursor}
use Rattle.argot_show.proofs.cursor.Cursor.moved.Given as goal

abbrev pub invariant-loop-here : goal.invariant-loop-here
invariant-loop-here l = record {
  there : IsCursor l.bytes l.here;
  within : l.here.at ≤ l.to;
}

abbrev pub decreases-loop-here : goal.decreases-loop-here
decreases-loop-here l = l.to - l.here.at
