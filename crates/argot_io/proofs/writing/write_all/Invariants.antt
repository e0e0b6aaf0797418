use Rattle.std.proofs.Common.{length, ◌-◌, ◌≡◌, ◌≤◌, take}
use Rattle.argot_io.specs.Taken.{taken_with}
use Rattle.argot_io.proofs.writing.write_all.Given as goal

abbrev pub invariant-loop-written : goal.invariant-loop-written
invariant-loop-written g l = record {
  within : l.written ≤ length l.bytes;
  faults : g.O.Sink.faults l.out ≡ g.O.Sink.faults l.initial.out;
  taken : g.O.Sink.taken l.out ≡ taken_with (g.O.Sink.taken l.initial.out) (take l.written l.bytes);
}

abbrev pub decreases-loop-written : goal.decreases-loop-written
decreases-loop-written g l = length l.bytes - l.written
