use Rattle.std.proofs.Common.{◌≡◌, ◌-◌, ◌≤◌, length, drop, Some}
use Rattle.argot_lex.specs.Marks.{grow, mark_front}
use Rattle.argot_lex.proofs.marks.mark_front.Given as goal

abbrev pub invariant-loop-n : goal.invariant-loop-n
invariant-loop-n l = record {
  within : l.n ≤ length l.bytes;
  grown : Some (grow l.mark l.n (drop l.n l.bytes)) ≡ mark_front l.bytes;
}

abbrev pub decreases-loop-n : goal.decreases-loop-n
decreases-loop-n l = length l.bytes - l.n
