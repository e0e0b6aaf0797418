use Rattle.argot_typed.proofs.Ending.{ordered_push}
use Rattle.argot_typed.proofs.tests.put.Goals as goal

pub returns-clause-ordered : goal.returns-clause-ordered
returns-clause-ordered c = rw c.in_ok-push.ensures.items (ordered_push c.args.shapes.now.items c.args.shape c.requires.ordered c.requires.parts c.requires.narrow)
