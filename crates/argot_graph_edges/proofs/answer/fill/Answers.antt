use Rattle.std.proofs.Common.{◌≡◌, ap, ◌∙◌, subst, sym, length, inl, inr}
use Rattle.std.specs.Prelude.{◌⊎◌}
use Rattle.argot_points_rules.specs.Column.{rules_of}
use Rattle.argot_graph_edges.specs.Accessing.{Written, Readable}
use Rattle.argot_graph_edges.specs.Adding.{Adds}
use Rattle.argot_graph_edges.specs.Whole.{Drawn, Met, IsEdgeOf, AreRuns}
use Rattle.argot_graph_edges.proofs.All.{drawn_is, met_is, all_are}
use Rattle.argot_graph_edges.proofs.Sketching.{adds_both}
use Rattle.argot_graph_edges.proofs.answer.fill.Goals as goal

pub returns : goal.returns
returns c =
    let d = c.args.drawing.now in
    let p = d.program.now in
    let x = d.points.now in
    let pr = d.problem.now in
    let W = c.args.writes.now in
    let reads = c.args.reads.now in
    let ds = c.args.laid.now.defs.now in
    let q = c.requires in
    let count = length x.locations in
    let ws = subst (λ rs. AreRuns (Written x rs) count W.runs.now) q.rules q.writes in
    let rs = subst (λ rs. AreRuns (Readable x rs) count reads) q.rules q.reads in
    adds_both (Drawn p x pr (rules_of p ds) ds) (Met p x pr W reads) (IsEdgeOf p x pr) _ _ _
    (λ e s. elim s [ inl r ↦ drawn_is p x q.well q.fits pr ds q.defs e r | inr r ↦ met_is p x q.well q.fits pr ds q.defs W reads q.order.escaping q.order.following ws.are rs.are e r ])
    (λ e n. all_are p x q.well q.fits pr ds q.defs W reads q.order.escaping q.order.following ws.are rs.are e n)
    (subst (λ rs. Adds (Drawn p x pr rs ds) c.args.sketch.now c.draw.new.sketch) q.rules c.in_ok-draw.ensures) c.in_ok-meet.ensures
