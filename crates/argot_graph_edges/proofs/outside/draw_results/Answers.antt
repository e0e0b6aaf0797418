use Rattle.std.proofs.Common.{◌≡◌, ◌<◌, ◌≤◌, length, subst, arith}
use Rattle.argot_plain.specs.Code.{arguments}
use Rattle.argot_graph_edges.specs.Outward.{ToResult, FromArgument}
use Rattle.argot_graph_edges.proofs.Sketching.{adds_none, adds_as, adds_next}
use Rattle.argot_graph_edges.proofs.outside.draw_results.Goals as goal

pub loop-n-init : goal.loop-n-init
loop-n-init c = adds_none _ _ (λ e h. omega (arith, h.1, h.2))

pub loop-n-preserved : goal.loop-n-preserved
loop-n-preserved c = adds_next (ToResult c.args.drawing.now.points.now.nodes c.args.from c.args.call.now.place c.args.call.now.behind) c.args.first c.loop-n.n _ _ _ (omega (arith, c.loop-n.auto.n)) c.loop-n.invariant c.in_ok-draw_result.ensures

pub returns : goal.returns
returns c =
    let last = c.loop-n.auto.n-end in
    adds_as _ _ _ _ (λ e h. (h.0, h.1, omega (arith, h.2, last c.requires.order), h.3)) (λ e h. (h.0, h.1, omega (arith, h.2, c.loop-n-test.false), h.3)) c.loop-n.invariant
