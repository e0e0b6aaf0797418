use Rattle.std.proofs.Common.{◌≡◌, ◌<◌, ◌≤◌, length, subst, arith}
use Rattle.argot_graph_edges.specs.Outward.{OfExternal}
use Rattle.argot_graph_edges.proofs.Calling.{place_within}
use Rattle.argot_graph_edges.proofs.Sketching.{adds_none, adds_as, adds_next}
use Rattle.argot_graph_edges.proofs.outside.draw_externals.Goals as goal

pub loop-place-init : goal.loop-place-init
loop-place-init c = adds_none _ _ (λ e h. omega (arith, h.2))

pub loop-place-preserved : goal.loop-place-preserved
loop-place-preserved c =
    adds_next (OfExternal c.args.drawing.now.program.now c.args.drawing.now.points.now c.args.drawing.now.problem.now) 0 c.loop-place.place _ _ _ (omega arith) c.loop-place.invariant c.in_ok-draw_external.ensures

pub returns : goal.returns
returns c = adds_as _ _ _ _ (λ e h. (h.0, h.3)) (λ e h. (h.0, omega arith, omega (arith, place_within c.args.drawing.now.program.now h.0 _ h.1.at, c.len-place-end.ensures.count, c.loop-place-test.false), h.1)) c.loop-place.invariant
