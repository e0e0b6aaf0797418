use Rattle.argot_show.proofs.trees.show_tree.Goals as goal

pub returns-in-Ok-Bad-clause-refused : goal.returns-in-Ok-Bad-clause-refused
returns-in-Ok-Bad-clause-refused g c = λ _. (rw c.in-Ok-Bad.field-0-is at c.in-Ok-Bad.ensures.ok)

pub returns-in-Ok-Syntax-clause-refused : goal.returns-in-Ok-Syntax-clause-refused
returns-in-Ok-Syntax-clause-refused g c = λ _. (rw c.in-Ok-Syntax.field-0-is at c.in-Ok-Syntax.ensures.ok)
