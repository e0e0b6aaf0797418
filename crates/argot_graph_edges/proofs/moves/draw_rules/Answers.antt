use Rattle.std.proofs.Common.{◌≡◌, ◌+◌, ◌++◌, ◌∷◌, [], length, take, get_or, ap, ◌∙◌, subst, arith}
use Rattle.std.proofs.Math.Seq.{take-length}
use Rattle.std.proofs.lemmas.List.{take_more}
use Rattle.std.proofs.lemmas.Option.{get_or_from_slice_get}
use Rattle.argot_facts.proofs.Listed.{get_at}
use Rattle.argot_points_rules.specs.declared.rules.Owned.{Owned}
use Rattle.argot_graph_edges.specs.Adding.{Adds}
use Rattle.argot_graph_edges.specs.Drawn.{RuleDrawn, RulesDrawn}
use Rattle.argot_graph_edges.proofs.Sketching.{adds_none, adds_more}
use Rattle.argot_graph_edges.proofs.moves.draw_rules.Goals as goal

pub loop-n-init : goal.loop-n-init
loop-n-init c = adds_none _ _ (λ e h. elim h.1 [ ])

pub loop-n-preserved : goal.loop-n-preserved
loop-n-preserved c =
    let d = c.args.drawing.now in
    let xs = c.args.rules.now in
    let at = get_at xs c.loop-n.n c.loop-n-test.true in
    adds_more (λ (o : Owned). RuleDrawn d.program.now d.points.now d.problem.now o.function o.rule) (take c.loop-n.n xs) (take (c.loop-n.n + 1) xs) at.0 _ _ _
    (take_more xs c.loop-n.n at.0 c.loop-n-test.true ∙ ap (λ x. take c.loop-n.n xs ++ x ∷ []) (get_or_from_slice_get xs c.loop-n.n at.0 at.0 at.1)) c.loop-n.invariant
    (subst (λ (o : Owned). Adds (RuleDrawn d.program.now d.points.now d.problem.now at.0.function o.rule) c.loop-n.sketch c.draw_rule.new.sketch) (get_or_from_slice_get xs c.loop-n.n at.0 c.index-rules-n-in-loop-n.result at.1)
    (subst (λ (o : Owned). Adds (RuleDrawn d.program.now d.points.now d.problem.now o.function (get_or xs c.loop-n.n c.index-rules-n-in-loop-n.result).rule) c.loop-n.sketch c.draw_rule.new.sketch) (get_or_from_slice_get xs c.loop-n.n at.0 c.index-rules-n.result at.1) c.in_ok-draw_rule.ensures))

pub returns : goal.returns
returns c =
    let d = c.args.drawing.now in
    let xs = c.args.rules.now in
    let e : c.loop-n.n ≡ length xs = omega arith in
    subst (λ ys. Adds (RulesDrawn d.program.now d.points.now d.problem.now ys) c.args.sketch.now c.loop-n.sketch) (ap (λ n. take n xs) e ∙ take-length xs) c.loop-n.invariant
