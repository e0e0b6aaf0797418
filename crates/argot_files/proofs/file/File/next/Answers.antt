use Rattle.std.proofs.Common.{sym, ◌∙◌}
use Rattle.argot_files.proofs.Siblings.{next_ahead}
use Rattle.argot_files.proofs.file.File.next.Goals as goal

pub returns-clause-ahead : goal.returns-clause-ahead
returns-clause-ahead c = λ x e. rw (← c.self.view_is) (next_ahead c.self.inside.nodes.now c.self.invariant.formed.links c.args.at x (sym c.next_in.ensures ∙ (c.in_ok-next_in.was ∙ e)))
