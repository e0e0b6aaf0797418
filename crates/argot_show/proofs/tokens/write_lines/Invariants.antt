use Rattle.std.proofs.Common.{◌≡◌, ◌-◌, ◌≤◌, [], length, take}
use Rattle.argot_io.specs.Taken.{taken_with}
use Rattle.argot_show.specs.Lines.{lines_onto}
use Rattle.argot_show.proofs.tokens.write_lines.Given as goal

abbrev pub invariant-loop-at : goal.invariant-loop-at
invariant-loop-at g l = record {
  within : l.at ≤ length l.tokens;
  faults : g.O.Sink.faults l.out ≡ g.O.Sink.faults l.initial.out;
  taken : g.O.Sink.taken l.out ≡ taken_with (g.O.Sink.taken l.initial.out) (lines_onto [] l.bytes 0 (take l.at l.tokens));
}

abbrev pub decreases-loop-at : goal.decreases-loop-at
decreases-loop-at g l = length l.tokens - l.at
