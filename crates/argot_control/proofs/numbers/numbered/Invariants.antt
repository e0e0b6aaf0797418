use Rattle.std.specs.Prelude.{◌≡◌, length}
use Rattle.argot_control.specs.Numbering.{AreNumberedSoFar}
use Rattle.argot_control.proofs.numbers.numbered.Given as goal

abbrev pub invariant-loop-k : goal.invariant-loop-k
invariant-loop-k l = record {
  count : length l.numbers.items ≡ l.k;
  so_far : AreNumberedSoFar l.flags l.numbers.items l.number;
}
