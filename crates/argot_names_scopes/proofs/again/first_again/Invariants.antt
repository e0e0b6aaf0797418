use Rattle.argot_names_scopes.specs.Again.{IsFirstAgain}
use Rattle.argot_names_scopes.proofs.again.first_again.Given as goal

abbrev pub invariant-loop-k : goal.invariant-loop-k
invariant-loop-k l = IsFirstAgain l.bytes l.tokens l.brought l.k l.first
