use Rattle.argot_names_scopes.specs.Tables.{AreLinksUpTo}
use Rattle.argot_names_scopes.proofs.links.links_of.Given as goal

abbrev pub invariant-loop-k : goal.invariant-loop-k
invariant-loop-k l = AreLinksUpTo l.bytes l.tokens l.brought l.news l.k l.lasts l.befores.items
