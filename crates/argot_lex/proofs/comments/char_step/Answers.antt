use Rattle.argot_lex.proofs.CommentSteps.{some_char_bounds}
use Rattle.argot_lex.proofs.comments.char_step.Goals as goal

pub returns-clause-within : goal.returns-clause-within
returns-clause-within c = some_char_bounds c.args.bytes.now c.some_char.result c.some_char.ensures
