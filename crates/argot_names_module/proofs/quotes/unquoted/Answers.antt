use Rattle.argot_names_module.proofs.Unquoted.{cut_quotes}
use Rattle.argot_names_module.proofs.quotes.unquoted.Goals as goal

pub returns : goal.returns
returns c = cut_quotes c.args.word.now c.behind_quotes-behind.result.now c.quotes_at.result c.behind_quotes-behind.ensures c.quotes_at.ensures.quotes c.quotes_at.ensures.before
