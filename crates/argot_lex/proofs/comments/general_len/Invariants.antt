use Rattle.std.proofs.Common.{◌≡◌, ◌-◌, ◌≤◌, length, drop, false}
use Rattle.argot_lex.specs.Comments.{general_from}
use Rattle.argot_lex.proofs.comments.general_len.Given as goal

abbrev pub invariant-loop-at : goal.invariant-loop-at
invariant-loop-at l = record {
  within : l.at ≤ length l.text;
  comment : general_from 0 l.star l.breaks l.at (drop l.at l.text) ≡ general_from 0 false false 2 (drop 2 l.text);
}

abbrev pub decreases-loop-at : goal.decreases-loop-at
decreases-loop-at l = length l.text - l.at
