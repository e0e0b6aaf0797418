use Rattle.std.proofs.Common.{◌≡◌, refl, sym, ap, ◌∙◌, subst}
use Rattle.argot_graph_edges.proofs.Sketching.{adds_none, adds_as_last}
use Rattle.argot_graph_edges.proofs.moves.enter_at.Goals as goal

pub returns-in_default : goal.returns-in_default
returns-in_default c = adds_none _ _ (λ e r. c.in_default.ensures.none refl r.row.becomes.callee r.row.becomes.args r.row.becomes.behind r.row.becomes.call)
