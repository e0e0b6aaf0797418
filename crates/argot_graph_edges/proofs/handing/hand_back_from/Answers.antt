use Rattle.std.proofs.Common.{◌≡◌, Some, true, false, refl, sym, ap, ◌∙◌, subst}
use Rattle.argot_plain.specs.Counts.{cleans}
use Rattle.argot_facts.specs.declared.graphs.EdgeKind.TheVariants.{Return as Returns}
use Rattle.argot_graph_edges.specs.Handing.{BackAt}
use Rattle.argot_graph_edges.specs.Rows.{IsNumberedAs, Just}
use Rattle.argot_graph_edges.proofs.Sketching.{adds_none, adds_as_last}
use Rattle.argot_graph_edges.proofs.Tabling.{cleans_is}
use Rattle.argot_graph_edges.proofs.handing.hand_back_from.Goals as goal

pub returns-then-cleans : goal.returns-then-cleans
returns-then-cleans c = adds_none _ _ (λ e r.
    let s = cleans_is _ _ _ c.requires.tables c.args.place c.args.g c.requires.inside c.requires.target in
    let z : true ≡ false = sym c.if-cleans.true ∙ c.cleans.ensures ∙ s ∙ r.passes in
    absurd cc)

pub returns-in_default : goal.returns-in_default
returns-in_default c = adds_none _ _ (λ e r. c.in_default.ensures.none refl r.value r.back)

pub returns : goal.returns
returns c =
    let ns = c.args.drawing.now.points.now.nodes in
    let i = c.args.place in
    let v = c.args.value.now in
    let s = cleans_is _ _ _ c.requires.tables c.args.place c.args.g c.requires.inside c.requires.target in
    adds_as_last c.draw.result _ _ _ _
    (λ e r. record { passes = sym (c.cleans.ensures ∙ s) ∙ c.if-cleans.false; value = c.in-Some.from; back = c.in-Some.ensures.some; is = r })
    (λ e r. subst (λ w. IsNumberedAs ns (Just w (Returns i) v.node) e) (c.in-Some.ensures.only r.value r.back) r.is) c.draw.ensures
