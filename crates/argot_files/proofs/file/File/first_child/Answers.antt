use Rattle.std.proofs.Common.{sym, ◌∙◌}
use Rattle.argot_files.proofs.Siblings.{first_ahead}
use Rattle.argot_files.proofs.file.File.first_child.Goals as goal

pub returns-clause-ahead : goal.returns-clause-ahead
returns-clause-ahead c = λ x e. rw (← c.self.view_is) (first_ahead c.self.inside.nodes.now c.self.invariant.formed.links c.args.at x (sym c.first_in.ensures ∙ (c.in_ok-first_in.was ∙ e)))
