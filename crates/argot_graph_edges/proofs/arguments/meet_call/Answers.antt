use Rattle.std.proofs.Common.{◌≡◌, ℕ, List, length, refl, sym, ap, ◌∙◌, subst}
use Rattle.std.specs.Prelude.{OnOk, slice_get}
use Rattle.argot_plain.specs.Code.{arguments, kind_of}
use Rattle.argot_graph_edges.specs.Adding.{Adds}
use Rattle.argot_graph_edges.specs.Inward.{OfArguments, reading}
use Rattle.argot_graph_edges.proofs.Sketching.{adds_none, adds_as_last}
use Rattle.argot_graph_edges.proofs.arguments.meet_call.Goals as goal

pub returns-in_default : goal.returns-in_default
returns-in_default c = adds_none _ _ (λ e r. c.in_default.ensures.none refl r.callee r.args r.behind r.call)

pub returns : goal.returns
returns c =
    let d = c.args.drawing.now in
    let x = d.points.now in
    let i = c.args.place in
    let call = c.in-Some.call in
    let count = length (arguments call.callee.now call.args.now) in
    let at : c.reading-at.result ≡ reading (kind_of (slice_get d.program.now.instrs i)) i c.args.exit = c.reading-at.ensures ∙ ap (λ w. reading w i c.args.exit) (sym c.kind.ensures) in
    let found : OnOk c.meet_arguments.result (Adds (OfArguments x c.args.writes.now i (reading (kind_of (slice_get d.program.now.instrs i)) i c.args.exit) call.behind count) c.args.sketch.now c.meet_arguments.new.sketch) =
    subst (λ w. OnOk c.meet_arguments.result (Adds (OfArguments x c.args.writes.now i w call.behind count) c.args.sketch.now c.meet_arguments.new.sketch)) at
    (subst (λ w. OnOk c.meet_arguments.result (Adds (OfArguments x c.args.writes.now w c.reading-at.result call.behind count) c.args.sketch.now c.meet_arguments.new.sketch)) c.in-Some.ensures.place c.meet_arguments.ensures) in
    adds_as_last c.meet_arguments.result _ _ _ _
    (λ e h. record { callee = call.callee.now; args = call.args.now; behind = call.behind; call = c.in-Some.ensures.found; looks = c.looks_inside.ensures.yes c.if-not-looks_inside.false; argument = h })
    (λ e r.
    let o = c.in-Some.ensures.only r.callee r.args r.behind r.call in
    let R = OfArguments x c.args.writes.now i (reading (kind_of (slice_get d.program.now.instrs i)) i c.args.exit) in
    subst (λ n. R n count e) o.2 (subst (λ xs. R r.behind (length (arguments call.callee.now xs)) e) o.1 (subst (λ w. R r.behind (length (arguments w r.args)) e) o.0 r.argument))) found
