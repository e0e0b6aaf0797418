use Rattle.std.proofs.Common.{inl, inr}
use Rattle.std.specs.Prelude.{◌⊎◌}
use Rattle.argot_graph_edges.specs.Drawn.{RulesDrawn}
use Rattle.argot_graph_edges.specs.Operating.{OfFunctions}
use Rattle.argot_graph_edges.specs.Outward.{OfExternals}
use Rattle.argot_graph_edges.specs.Whole.{Drawn}
use Rattle.argot_graph_edges.proofs.Sketching.{adds_both}
use Rattle.argot_graph_edges.proofs.answer.draw.Goals as goal

pub returns : goal.returns
returns c =
    let d = c.args.drawing.now in
    let p = d.program.now in
    let x = d.points.now in
    let R = RulesDrawn p x d.problem.now c.args.rules.now in
    let O = OfFunctions p x.nodes c.args.defs.now x.live in
    adds_both (λ e. R e ⊎ O e) (OfExternals p x d.problem.now) (Drawn p x d.problem.now c.args.rules.now c.args.defs.now) _ _ _ (λ e s. s) (λ e s. s)
    (adds_both R O (λ e. R e ⊎ O e) _ _ _ (λ e s. s) (λ e s. s) c.in_ok-draw_rules.ensures c.in_ok-draw_ops.ensures) c.in_ok-draw_externals.ensures
