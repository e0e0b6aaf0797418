use Rattle.std.proofs.Common.{◌≡◌, ◌+◌, ◌<◌, ◌≤◌, length, subst, arith}
use Rattle.argot_graph_edges.specs.Adding.{Adds}
use Rattle.argot_graph_edges.specs.Inward.{OfArgument}
use Rattle.argot_graph_edges.proofs.Sketching.{adds_none, adds_as, adds_next}
use Rattle.argot_graph_edges.proofs.arguments.meet_arguments.Goals as goal

pub loop-k-init : goal.loop-k-init
loop-k-init c = adds_none _ _ (λ e h. omega (arith, h.2))

pub loop-k-preserved : goal.loop-k-preserved
loop-k-preserved c =
    let x = c.args.drawing.now.points.now in
    let call = c.args.call.now in
    adds_next (λ k. OfArgument x c.args.writes.now call.place c.args.at (call.behind + k)) 0 c.loop-k.k _ _ _ (omega arith) c.loop-k.invariant
    (subst (λ n. Adds (OfArgument x c.args.writes.now call.place c.args.at n) c.loop-k.sketch c.meet_argument.new.sketch) c.in_ok-index.ensures c.in_ok-meet_argument.ensures)

pub returns : goal.returns
returns c = adds_as _ _ _ _ (λ e h. (h.0, omega (arith, h.2, c.loop-k.auto.k-end, c.arguments-k-end.ensures), h.3)) (λ e h. (h.0, omega arith, omega (arith, h.1, c.loop-k-test.false, c.arguments-k-end.ensures), h.2)) c.loop-k.invariant
