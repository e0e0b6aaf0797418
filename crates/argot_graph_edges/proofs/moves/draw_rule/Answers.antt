use Rattle.std.proofs.Common.{◌≡◌, sym, subst}
use Rattle.std.specs.Prelude.{OnOk}
use Rattle.argot_graph_edges.specs.Adding.{Adds}
use Rattle.argot_graph_edges.specs.Drawn.{RuleDrawn}
use Rattle.argot_graph_edges.specs.Rows.{IsNumberedAs, Entering, Returning}
use Rattle.argot_graph_edges.proofs.moves.draw_rule.Goals as goal

pub returns-in-Enter : goal.returns-in-Enter
returns-in-Enter c =
    let d = c.args.drawing.now in
    let r = c.in-Enter in
    subst (λ w. OnOk c.enter_at.result (Adds (RuleDrawn d.program.now d.points.now d.problem.now c.args.h w) c.args.sketch.now c.enter_at.new.sketch)) (sym r.is)
    (subst (λ w. OnOk c.enter_at.result (Adds (IsNumberedAs d.points.now.nodes (Entering d.program.now d.points.now d.problem.now r.place r.index w r.source)) c.args.sketch.now c.enter_at.new.sketch)) c.as_slice.ensures c.enter_at.ensures)

pub returns-in-Choose : goal.returns-in-Choose
returns-in-Choose c =
    let d = c.args.drawing.now in
    subst (λ w. OnOk c.choose.result (Adds (RuleDrawn d.program.now d.points.now d.problem.now c.args.h w) c.args.sketch.now c.choose.new.sketch)) (sym c.in-Choose.is) c.choose.ensures

pub returns-in-Return : goal.returns-in-Return
returns-in-Return c =
    let d = c.args.drawing.now in
    let r = c.in-Return in
    subst (λ w. OnOk c.return_at.result (Adds (RuleDrawn d.program.now d.points.now d.problem.now c.args.h w) c.args.sketch.now c.return_at.new.sketch)) (sym r.is)
    (subst (λ w. OnOk c.return_at.result (Adds (IsNumberedAs d.points.now.nodes (Returning d.program.now d.points.now d.problem.now r.place r.index w r.to)) c.args.sketch.now c.return_at.new.sketch)) c.as_slice-in-Return.ensures c.return_at.ensures)
