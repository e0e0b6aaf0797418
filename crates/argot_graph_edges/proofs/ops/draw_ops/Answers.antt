use Rattle.std.proofs.Common.{◌≡◌, ◌+◌, length, take, get_or, slice_get, ap, ◌∙◌, subst, arith}
use Rattle.std.proofs.Math.Seq.{take-length}
use Rattle.std.proofs.lemmas.List.{take_more}
use Rattle.std.proofs.lemmas.Option.{slice_get-get_or}
use Rattle.argot_plain.specs.Lists.{In}
use Rattle.argot_facts.proofs.Listed.{in_of_get}
use Rattle.argot_graph_edges.specs.Adding.{Adds}
use Rattle.argot_graph_edges.specs.Operating.{OfFunction, OfFunctions}
use Rattle.argot_graph_edges.proofs.Sketching.{adds_none, adds_more}
use Rattle.argot_graph_edges.proofs.ops.draw_ops.Goals as goal

pub loop-n-init : goal.loop-n-init
loop-n-init c = adds_none _ _ (λ e h. elim h.1 [ ])

pub draw_function-requires-clause-inside : goal.draw_function-requires-clause-inside
draw_function-requires-clause-inside c =
    let xs = c.live-live.result.now in
    c.requires.fits.live _ (subst (In (get_or xs c.loop-n.n 0)) c.live-live.ensures (in_of_get xs c.loop-n.n (get_or xs c.loop-n.n 0) (slice_get-get_or xs c.loop-n.n 0 c.loop-n-test.true)))

pub loop-n-preserved : goal.loop-n-preserved
loop-n-preserved c =
    let xs = c.live-live.result.now in
    adds_more (OfFunction c.args.drawing.now.program.now c.args.drawing.now.points.now.nodes c.args.defs.now) (take c.loop-n.n xs) (take (c.loop-n.n + 1) xs) (get_or xs c.loop-n.n 0) _ _ _ (take_more xs c.loop-n.n 0 c.loop-n-test.true) c.loop-n.invariant c.in_ok-draw_function.ensures

pub returns : goal.returns
returns c =
    let d = c.args.drawing.now in
    let xs = c.live-live.result.now in
    let e : c.loop-n.n ≡ length xs = omega arith in
    subst (λ ys. Adds (OfFunctions d.program.now d.points.now.nodes c.args.defs.now ys) c.args.sketch.now c.loop-n.sketch) (ap (λ n. take n xs) e ∙ (take-length xs ∙ c.live-live.ensures)) c.loop-n.invariant
