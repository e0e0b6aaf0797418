use Rattle.std.proofs.Common.{◌≡◌, ◌+◌, ◌<◌, ◌≤◌, Some, length, sym, ap, ◌∙◌, subst, arith}
use Rattle.argot_plain.specs.declared.functions.Function.{Function}
use Rattle.argot_graph_edges.specs.Inward.{OfCall}
use Rattle.argot_graph_edges.proofs.Sketching.{adds_none, adds_as, adds_next}
use Rattle.argot_graph_edges.proofs.arguments.meet_function.Goals as goal

pub loop-place-init : goal.loop-place-init
loop-place-init c = adds_none _ _ (λ e h. omega (arith, h.1, h.2))

pub loop-place-preserved : goal.loop-place-preserved
loop-place-preserved c =
    let d = c.args.drawing.now in
    let fn = c.function-function.result.now in
    adds_next (OfCall d.program.now d.points.now d.problem.now c.args.writes.now fn.exit) fn.entry c.loop-place.place _ _ _ c.loop-place.auto.place c.loop-place.invariant c.in_ok-meet_call.ensures

pub returns : goal.returns
returns c =
    let d = c.args.drawing.now in
    let fn = c.function-function.result.now in
    let w = c.requires.well.ranges.inside c.args.h fn c.function-function.ensures in
    let last = c.loop-place.auto.place-end (omega (arith, w.0, w.1)) in
    adds_as _ _ _ _
    (λ e h. (h.0, record { fn = fn; is = c.function-function.ensures; low = h.1; high = omega (arith, h.2, last) }, h.3))
    (λ e h.
    let s : Some h.1.fn ≡ Some fn = sym h.1.is ∙ c.function-function.ensures in
    let f : h.1.fn ≡ fn = cc in
    (h.0, subst (λ (w : Function). w.entry ≤ h.0) f h.1.low, omega (arith, subst (λ (w : Function). h.0 ≤ w.leave) f h.1.high, c.loop-place-test.false), subst (λ (w : Function). OfCall d.program.now d.points.now d.problem.now c.args.writes.now w.exit h.0 e) f h.2)) c.loop-place.invariant
