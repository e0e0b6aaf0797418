use Rattle.argot_names_scopes.specs.News.{AreNewsUpTo}
use Rattle.argot_names_scopes.proofs.news.news_of.Given as goal

abbrev pub invariant-loop-k : goal.invariant-loop-k
invariant-loop-k l = AreNewsUpTo l.bytes l.tokens l.brought l.k l.news.items
