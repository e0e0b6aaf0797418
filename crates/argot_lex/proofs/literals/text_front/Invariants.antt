use Rattle.std.proofs.Common.{◌≡◌, ◌-◌, ◌≤◌, length, drop}
use Rattle.argot_lex.specs.Literals.{text_from, text_front}
use Rattle.argot_lex.proofs.literals.text_front.Given as goal

abbrev pub invariant-loop-at : goal.invariant-loop-at
invariant-loop-at l = record {
  within : l.at ≤ length l.text;
  text : text_from 34 0 l.at (drop l.at l.text) ≡ text_front l.text;
}

abbrev pub decreases-loop-at : goal.decreases-loop-at
decreases-loop-at l = length l.text - l.at
