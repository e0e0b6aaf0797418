use Rattle.std.proofs.Common.{◌≡◌, ◌-◌, ◌≤◌, length, drop}
use Rattle.argot_lex.specs.Numbers.{scan, number_front}
use Rattle.argot_lex.proofs.numbers.number_front.Given as goal

abbrev pub invariant-loop-n : goal.invariant-loop-n
invariant-loop-n l = record {
  within : l.n ≤ length l.bytes;
  scanned : scan l.state l.n l.best (drop l.n l.bytes) ≡ number_front l.bytes;
}

abbrev pub decreases-loop-n : goal.decreases-loop-n
decreases-loop-n l = length l.bytes - l.n
