use Rattle.std.proofs.Common.{arith, ap, sym, length, append-nil, ◌++◌, ◌∙◌}
use Rattle.argot_points_rules.proofs.Counting.{pushed_all, fresh_next}
use Rattle.argot_points_rules.proofs.Placed.{fresh_skips, fresh_none}
use Rattle.argot_points_rules.proofs.column.push_fresh.Goals as goal

pub loop-s-init : goal.loop-s-init
loop-s-init c =
    let begin = c.first_site-first.ensures in
    ap (λ xs. c.args.rules.now.items ++ xs) (sym (fresh_skips c.args.at.now.owner c.args.at.now.place c.args.by (length c.args.at.now.program.now.globals) c.first_site-first.result c.args.at.now.program.now.sites begin.from begin.inside (λ m site e l o t. absurd (omega (arith, begin.before m site e l o, t)))))

pub loop-s-preserved : goal.loop-s-preserved
loop-s-preserved c = pushed_all _ _ _ _ _ _ c.loop-s.invariant (fresh_next c.args.at.now.owner c.args.at.now.place c.args.by c.loop-s.s _ _ c.site.ensures) c.in_ok-push_fresh_at.ensures

pub returns : goal.returns
returns c =
    let stop = c.end_of_sites-end.ensures in
    sym (append-nil c.loop-s.rules.items)
    ∙ ap (λ xs. c.loop-s.rules.items ++ xs) (sym (fresh_none c.args.at.now.owner c.args.at.now.place c.args.by c.loop-s.s c.args.at.now.program.now.sites (omega (arith, c.loop-s.auto.s-end, stop.from, stop.inside)) (λ m site e l o t. absurd (omega (arith, stop.behind m site e (omega (arith, l, c.loop-s-test.false)), t)))))
    ∙ c.loop-s.invariant
