use Rattle.std.specs.Prelude.{◌⊎◌}
use Rattle.argot_graph_edges.specs.Inward.{OfFunctions}
use Rattle.argot_graph_edges.specs.Meeting.{MeetsAtAll}
use Rattle.argot_graph_edges.specs.Whole.{Met}
use Rattle.argot_graph_edges.proofs.Sketching.{adds_both}
use Rattle.argot_graph_edges.proofs.answer.meet.Goals as goal

pub returns : goal.returns
returns c =
    let d = c.args.drawing.now in
    let W = c.args.writes.now in
    adds_both (MeetsAtAll d.points.now W.order.now.escaping.now W.order.now.control.now W.runs.now c.args.reads.now) (OfFunctions d.program.now d.points.now d.problem.now W)
    (Met d.program.now d.points.now d.problem.now W c.args.reads.now) _ _ _ (λ e s. s) (λ e s. s) c.in_ok-meet_all.ensures c.in_ok-meet_functions.ensures
