use Rattle.argot_names_scopes.specs.Tables.{AreFirstNames}
use Rattle.argot_names_scopes.proofs.firsts.firsts_of.Given as goal

abbrev pub invariant-loop-k : goal.invariant-loop-k
invariant-loop-k l = AreFirstNames l.bytes l.tokens l.brought l.k l.firsts
