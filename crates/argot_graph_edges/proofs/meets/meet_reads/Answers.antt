use Rattle.std.proofs.Common.{◌≡◌, ◌+◌, length, take, get_or, slice_get, ap, ◌∙◌, subst, arith}
use Rattle.std.proofs.Math.Seq.{take-length}
use Rattle.std.proofs.lemmas.List.{take_more}
use Rattle.std.proofs.lemmas.Option.{slice_get-get_or}
use Rattle.argot_facts.proofs.Listed.{in_of_get}
use Rattle.argot_graph_edges.specs.Adding.{Adds}
use Rattle.argot_graph_edges.specs.Meeting.{MeetOf, MeetsOf, MeetsOfAll}
use Rattle.argot_graph_edges.proofs.Sketching.{adds_none, adds_more}
use Rattle.argot_graph_edges.proofs.meets.meet_reads.Goals as goal

pub loop-n-init : goal.loop-n-init
loop-n-init c = adds_none _ _ (λ e h. elim h.1 [ ])

pub loop-n-preserved : goal.loop-n-preserved
loop-n-preserved c =
    let xs = c.args.reads.now in
    adds_more (λ r. MeetOf c.args.drawing.now.points.now.nodes c.args.order.now.escaping.now c.args.order.now.control.now c.args.site c.args.write r) (take c.loop-n.n xs) (take (c.loop-n.n + 1) xs) (get_or xs c.loop-n.n 0) _ _ _ (take_more xs c.loop-n.n 0 c.loop-n-test.true) c.loop-n.invariant c.in_ok-meet.ensures

pub returns : goal.returns
returns c =
    let xs = c.args.reads.now in
    let e : c.loop-n.n ≡ length xs = omega arith in
    subst (λ ys. Adds (MeetsOf c.args.drawing.now.points.now.nodes c.args.order.now.escaping.now c.args.order.now.control.now c.args.site ys c.args.write) c.args.sketch.now c.loop-n.sketch) (ap (λ n. take n xs) e ∙ take-length xs) c.loop-n.invariant
