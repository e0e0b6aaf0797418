use Rattle.std.proofs.Common.{◌≡◌, ◌+◌, ◌-◌, ◌≤◌, length, drop}
use Rattle.argot_lex.specs.Characters.{passes, run_from}
use Rattle.argot_lex.proofs.characters.run_of.Given as goal

abbrev pub invariant-loop-at : goal.invariant-loop-at
invariant-loop-at l = record {
  within : l.at ≤ length l.bytes;
  run : l.at + run_from (passes l.class) 0 (drop l.at l.bytes) ≡ run_from (passes l.class) 0 l.bytes;
}

abbrev pub decreases-loop-at : goal.decreases-loop-at
decreases-loop-at l = length l.bytes - l.at
