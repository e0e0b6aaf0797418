use Rattle.std.proofs.Common.{◌≡◌, Some, slice_get, refl, sym, ap, ◌∙◌, subst}
use Rattle.argot_plain.specs.Code.{kind_of}
use Rattle.argot_facts.specs.declared.graphs.EdgeKind.{EdgeKind}
use Rattle.argot_graph_edges.specs.Handing.{EntersAt}
use Rattle.argot_graph_edges.specs.Rows.{IsNumberedAs, Just, entering}
use Rattle.argot_graph_edges.proofs.Sketching.{adds_none, adds_as_last}
use Rattle.argot_graph_edges.proofs.handing.enter_target.Goals as goal

pub returns-in_default : goal.returns-in_default
returns-in_default c = adds_none _ _ (λ e r. c.in_default.ensures.none refl r.parameter r.becomes)

pub returns : goal.returns
returns c =
    let p = c.args.drawing.now.program.now in
    let ns = c.args.drawing.now.points.now.nodes in
    let i = c.args.call.now.place in
    let v = c.args.value.now in
    let k : c.entering-kind.result ≡ entering (kind_of (slice_get p.instrs i)) i = c.entering-kind.ensures ∙ ap (λ w. entering w i) (sym c.kind.ensures) in
    adds_as_last c.draw.result _ _ _ _
    (λ e r. record {
      parameter = c.in-Some.to;
      becomes = c.in-Some.ensures.some;
      is = subst (λ w. IsNumberedAs ns (Just v.node w c.in-Some.to) e) k r;
    })
    (λ e r. subst (λ w. IsNumberedAs ns (Just v.node w c.in-Some.to) e) (sym k)
    (subst (λ w. IsNumberedAs ns (Just v.node (entering (kind_of (slice_get p.instrs i)) i) w) e) (c.in-Some.ensures.only r.parameter r.becomes) r.is)) c.draw.ensures
