use Rattle.std.proofs.Common.{◌≡◌, ◌+◌, length, take, get_or, slice_get, ap, ◌∙◌, subst, arith}
use Rattle.std.proofs.Math.Seq.{take-length}
use Rattle.std.proofs.lemmas.List.{take_more}
use Rattle.std.proofs.lemmas.Option.{slice_get-get_or}
use Rattle.argot_facts.proofs.Listed.{in_of_get}
use Rattle.argot_facts.specs.Numbers.{node, leaves_of}
use Rattle.argot_points_rules.specs.Column.{definitions}
use Rattle.argot_graph_edges.specs.Adding.{Adds}
use Rattle.argot_graph_edges.specs.Operating.{FromDefinitions, FromRegisters}
use Rattle.argot_graph_edges.proofs.Sketching.{adds_none, adds_more}
use Rattle.argot_graph_edges.proofs.ops.draw_registers.Goals as goal

pub loop-n-init : goal.loop-n-init
loop-n-init c = adds_none _ _ (λ e h. elim h.1 [ ])

pub loop-n-preserved : goal.loop-n-preserved
loop-n-preserved c =
    let xs = c.args.from.now in
    let r = get_or xs c.loop-n.n 0 in
    let p = c.args.drawing.now.program.now in
    let ns = c.args.drawing.now.points.now.nodes in
    let fn = c.args.function.now in
    let ds = c.args.defs.now in
    let i = c.args.place in
    adds_more (λ r. FromDefinitions ns (definitions p fn i r ds) (length (leaves_of fn r)) (node i 0 0)) (take c.loop-n.n xs) (take (c.loop-n.n + 1) xs) r _ _ _ (take_more xs c.loop-n.n 0 c.loop-n-test.true) c.loop-n.invariant
    (subst (λ qs. Adds (FromDefinitions ns (definitions p fn i r ds) (length qs) (node i 0 0)) c.loop-n.sketch c.draw_definitions.new.sketch) c.leaves_of.ensures
    (subst (λ f. Adds (FromDefinitions ns f (length c.leaves_of.result.now) (node i 0 0)) c.loop-n.sketch c.draw_definitions.new.sketch) (c.deref.ensures.value ∙ c.in_ok-found.ensures) c.in_ok-draw_definitions.ensures))

pub returns : goal.returns
returns c =
    let xs = c.args.from.now in
    let e : c.loop-n.n ≡ length xs = omega arith in
    subst (λ ys. Adds (FromRegisters c.args.drawing.now.program.now c.args.drawing.now.points.now.nodes c.args.function.now c.args.defs.now c.args.place ys) c.args.sketch.now c.loop-n.sketch) (ap (λ n. take n xs) e ∙ take-length xs) c.loop-n.invariant
