use Rattle.std.proofs.Common.{◌≡◌, ◌<◌, ◌≤◌, length, subst, arith}
use Rattle.argot_facts.proofs.Listed.{get_within}
use Rattle.argot_graph_edges.specs.Inward.{OfFunction}
use Rattle.argot_graph_edges.proofs.Sketching.{adds_none, adds_as, adds_next}
use Rattle.argot_graph_edges.proofs.arguments.meet_functions.Goals as goal

pub loop-h-init : goal.loop-h-init
loop-h-init c = adds_none _ _ (λ e h. omega (arith, h.2))

pub loop-h-preserved : goal.loop-h-preserved
loop-h-preserved c =
    let d = c.args.drawing.now in
    adds_next (OfFunction d.program.now d.points.now d.problem.now c.args.writes.now) 0 c.loop-h.h _ _ _ (omega arith) c.loop-h.invariant c.in_ok-meet_function.ensures

pub returns : goal.returns
returns c = adds_as _ _ _ _ (λ e h. (h.0, h.3)) (λ e h. (h.0, omega arith, omega (arith, get_within c.args.drawing.now.program.now.functions h.0 h.1.1.fn h.1.1.is, c.function_count-h-end.ensures.count, c.loop-h-test.false), h.1)) c.loop-h.invariant
