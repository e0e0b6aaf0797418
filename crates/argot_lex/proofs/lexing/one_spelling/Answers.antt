use Rattle.argot_lex.proofs.Cuts.{spelled_once}
use Rattle.argot_lex.proofs.lexing.one_spelling.Goals as goal

pub returns : goal.returns
returns c = spelled_once
