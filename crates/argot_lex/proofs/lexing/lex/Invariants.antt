use Rattle.std.proofs.Common.{length, ◌-◌}
use Rattle.argot_lex.proofs.Cuts.{LexedTo}
use Rattle.argot_lex.proofs.lexing.lex.Given as goal

abbrev pub invariant-loop-at : goal.invariant-loop-at
invariant-loop-at l = LexedTo l.bytes l.tokens.items l.directives.items l.at l.pending

abbrev pub decreases-loop-at : goal.decreases-loop-at
decreases-loop-at l = length l.bytes - l.at
