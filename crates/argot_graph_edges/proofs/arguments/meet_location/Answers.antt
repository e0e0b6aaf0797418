use Rattle.std.proofs.Common.{◌≡◌, ◌+◌, ℕ, length, take, get_or, slice_get, ap, ◌∙◌, subst, arith}
use Rattle.std.proofs.Math.Seq.{take-length}
use Rattle.std.proofs.lemmas.List.{take_more}
use Rattle.std.proofs.lemmas.Option.{slice_get-get_or}
use Rattle.argot_facts.proofs.Listed.{in_of_get}
use Rattle.argot_graph_edges.specs.Adding.{Adds}
use Rattle.argot_facts.specs.Pointing.{IsPlaceOf}
use Rattle.argot_plain.specs.Lists.{In}
use Rattle.argot_links.specs.Runs.{run}
use Rattle.argot_graph_edges.specs.Inward.{ToArgument, AtLocation}
use Rattle.argot_graph_edges.proofs.Sketching.{adds_none, adds_more}
use Rattle.argot_graph_edges.proofs.arguments.meet_location.Goals as goal

pub loop-n-init : goal.loop-n-init
loop-n-init c = adds_none _ _ (λ e h. elim h.1 [ ])

pub loop-n-preserved : goal.loop-n-preserved
loop-n-preserved c =
    let xs = c.run-list.result.now in
    adds_more (ToArgument c.args.drawing.now.points.now.nodes c.args.writes.now.order.now.escaping.now c.args.writes.now.order.now.control.now c.args.leaf c.args.site) (take c.loop-n.n xs) (take (c.loop-n.n + 1) xs) (get_or xs c.loop-n.n 0) _ _ _ (take_more xs c.loop-n.n 0 c.loop-n-test.true) c.loop-n.invariant c.in_ok-meet_write.ensures

pub returns : goal.returns
returns c =
    let xs = c.run-list.result.now in
    let e : c.loop-n.n ≡ length xs = omega arith in
    subst (λ ys. Adds (λ e. (w : ℕ) × In w ys × ToArgument c.args.drawing.now.points.now.nodes c.args.writes.now.order.now.escaping.now c.args.writes.now.order.now.control.now c.args.leaf c.args.site w e) c.args.sketch.now c.loop-n.sketch) (ap (λ n. take n xs) e ∙ (take-length xs ∙ c.run-list.ensures)) c.loop-n.invariant
