use Rattle.argot_lex.proofs.FrontLaws.{front_tells_at}
use Rattle.argot_lex.proofs.front.piece_from.Goals as goal

pub returns-clause-longest : goal.returns-clause-longest
returns-clause-longest c =
    (front_tells_at c.piece_at.result c.args.bytes.now c.rest.result.now c.args.at c.rest.ensures c.piece_at.ensures).0

pub returns-clause-none : goal.returns-clause-none
returns-clause-none c =
    (front_tells_at c.piece_at.result c.args.bytes.now c.rest.result.now c.args.at c.rest.ensures c.piece_at.ensures).1
