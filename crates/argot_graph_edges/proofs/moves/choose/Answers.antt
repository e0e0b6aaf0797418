use Rattle.std.proofs.Common.{◌≡◌, ◌+◌, ℕ, [], refl, sym, ap, ◌∙◌, subst}
use Rattle.std.specs.Prelude.{OnOk}
use Rattle.argot_facts.specs.Numbers.{node}
use Rattle.argot_facts.specs.declared.nodes.Node.{Node}
use Rattle.argot_graph_edges.specs.Adding.{Adds}
use Rattle.argot_graph_edges.specs.Rows.{IsNumberedAs, Choosing, Entering}
use Rattle.argot_graph_edges.proofs.Sketching.{adds_none, adds_as_last}
use Rattle.argot_graph_edges.proofs.moves.choose.Goals as goal

pub returns-in_default : goal.returns-in_default
returns-in_default c = adds_none _ _ (λ e r. c.in_default.ensures.none refl r.row.0 r.row.1 r.row.2 r.row.3)

pub returns : goal.returns
returns c =
    let d = c.args.drawing.now in
    let i = c.args.place in
    let k = c.args.index in
    let call = c.in-Some.call in
    let from : c.in-Some-checked_add.behind ≡ call.behind + k = c.in-Some-checked_add.ensures.1 ∙ ap (λ w. w + k) c.in_ok-small.ensures in
    let found : OnOk c.enter.result (Adds (IsNumberedAs d.points.now.nodes (Entering d.program.now d.points.now d.problem.now i k [] (node i (call.behind + k) 0))) c.args.sketch.now c.enter.new.sketch) =
    subst (λ w. OnOk c.enter.result (Adds (IsNumberedAs d.points.now.nodes (Entering d.program.now d.points.now d.problem.now i k [] (node i w 0))) c.args.sketch.now c.enter.new.sketch)) from
    (subst (λ w. OnOk c.enter.result (Adds (IsNumberedAs d.points.now.nodes (Entering d.program.now d.points.now d.problem.now w k [] (node i c.in-Some-checked_add.behind 0))) c.args.sketch.now c.enter.new.sketch)) c.in-Some.ensures.place c.enter.ensures) in
    adds_as_last c.enter.result _ _ _ _
    (λ e r. record { from = r.from; to = r.to; is_from = r.is_from; is_to = r.is_to; row = (call.callee.now, call.args.now, call.behind, c.in-Some.ensures.found, r.row) })
    (λ e r. record {
      from = r.from;
      to = r.to;
      is_from = r.is_from;
      is_to = r.is_to;
      row = subst (λ w. Entering d.program.now d.points.now d.problem.now i k [] (node i (w + k) 0) r.from e.kind r.to) (c.in-Some.ensures.only r.row.0 r.row.1 r.row.2 r.row.3).2 r.row.4;
    }) found
