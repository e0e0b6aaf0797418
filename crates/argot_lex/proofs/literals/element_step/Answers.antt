use Rattle.argot_lex.proofs.Elements.{element_bounds}
use Rattle.argot_lex.proofs.literals.element_step.Goals as goal

pub returns-clause-within : goal.returns-clause-within
returns-clause-within c = element_bounds c.args.quote c.args.bytes.now c.element_len.result c.element_len.ensures
